-- What a length leaves in its work entries: entry n is place n's.
use Rattle.std.specs.Prelude.{◌≡◌, ℕ, ◌*◌, ◌/◌, ◌%◌, ◌≤◌, true, List, Result, IfOk, ◌≢◌, slice_index_or}
use Rattle.floor.specs.declared.Cell.{Cell}
use Rattle.floor.specs.declared.Counts.{Counts}
use Rattle.floor.specs.declared.Heading.{Heading}
use Rattle.floor.specs.Plane.{point}
use Rattle.floor.specs.Plans.{Plan, inside, is_open}
use Rattle.floor.specs.Places.{place, place_number, Chain}
use Rattle.rate.specs.declared.Comparison.{Comparison}
use Rattle.rate.specs.declared.Comparison.TheVariants.{Cheaper}
use Rattle.rate.specs.Laws.{AtLeast}
use Rattle.search.specs.declared.entry.Entry.{Entry}
use Rattle.search.specs.Mark.{way, blank, count, finished, finishes}
use Rattle.search.specs.declared.Work.{Work}
use Rattle.lengths.specs.declared.answers.Measured.{Measured}
use Rattle.lengths.specs.declared.answers.Refusal.{Refusal}
use Rattle.lengths.specs.Lists.{of_places}

-- how many cells of a plan are open
abbrev pub open_cells : Plan → ℕ
open_cells p = count (λ k. is_open p (record { row = k / p.cols; col = k % p.cols })) (p.rows * p.cols)

-- a chain of successors to a place, than which no chain to it is cheaper
pub record CheapestChain (order : Counts → Counts → Comparison) (p : Plan) (s t c : Cell) (h : Heading) (n : Counts) : Type 0 where
  pub chain : Chain p (point s) (point t) (place (point c) h) n
  pub least : (m : Counts) → Chain p (point s) (point t) (place (point c) h) m → AtLeast order m n

-- The entries of all places after a length was found. Left open are the number of finished places within these rules, and the entries that
-- are not finished. Left open too is the front of the waiting list: after a search its first slots, as many as there are places, hold anything.
-- Past them it is as before, which `Spared` says.
pub record Searched (order : Counts → Counts → Comparison) (p : Plan) (s t : Cell) (es : List Entry) (n : Measured) : Type 0 where
  -- the number answered is that of the entries marked finished, at most eight to an open cell, and 0 if start and target are one cell
  pub counted : n.finished ≡ finishes es
  pub few : n.finished ≤ 8 * open_cells p
  pub at_once : s ≡ t → n.finished ≡ 0
  -- each marked entry carries the counts of a cheapest chain of successors to its place
  pub cheapest : (c : Cell) (h : Heading) → inside p c ≡ true → finished es (place_number p.cols c h) ≡ true → CheapestChain order p s t c h (way (slice_index_or es (place_number p.cols c h) blank)).counts
  -- if start and target differ, a place on the target is marked, and so is every place with a chain cheaper than the answer
  pub target : (s ≢ t) → (h : Heading) × (finished es (place_number p.cols t h) ≡ true)
  pub cheaper : (s ≢ t) → (c : Cell) (h : Heading) (m : Counts) → Chain p (point s) (point t) (place (point c) h) m → order m n.counts ≡ Cheaper → finished es (place_number p.cols c h) ≡ true

-- a call that finds a length, or a route with it, leaves the entries of all places so
abbrev pub LeftSearched : {A : Type 0} → (Counts → Counts → Comparison) → Plan → Cell → Cell → Work → Result A Refusal → (A → Measured) → Type 0
LeftSearched order p s t work r length_of = IfOk r (λ a. Searched order p s t (of_places p work.entries.now) (length_of a))
