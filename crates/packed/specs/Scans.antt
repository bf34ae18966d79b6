-- What a scan along a line finds. Position q of a line is its place q - 1, so that position 0 lies outside; outside all is closed.
use Rattle.std.specs.Prelude.{◌≡◌, ℕ, zero, suc, ◌+◌, ◌-◌, ◌*◌, ◌/◌, ◌%◌, ◌<◌, Bool, true, false, cond, not, ◌&&◌, ◌||◌, List, Some, None, Option, nat_lt, slice_index}
use Rattle.floor.specs.declared.Heading.{Heading}
use Rattle.floor.specs.declared.Heading.TheVariants.{North, NorthEast, East, SouthEast, South, SouthWest, West, NorthWest}
use Rattle.packed.specs.declared.words.Way.{Way}
use Rattle.packed.specs.declared.words.Way.TheVariants.{Forward, Backward}
use Rattle.packed.specs.declared.scans.Lines.{Lines}
use Rattle.packed.specs.declared.halves.Half.{Half}
use Rattle.packed.specs.Layout.{line_words, shut}
use Rattle.packed.specs.Bits.{bit, sooner}

-- whether a position of a line is closed
unfoldable pub seen : List ℕ → ℕ → Bool
seen line zero = true
seen line (suc i) = cond (nat_lt i 128) (bit (slice_index line (i / 64)) (i % 64)) true

-- the next word of a line on the way, of the two that there are
abbrev pub next_word : Way → ℕ → Option ℕ
next_word Forward word = cond (nat_lt (word + 1) 2) (Some (word + 1)) None
next_word Backward zero = None
next_word Backward (suc word) = Some word

-- the position k steps on
abbrev pub onward : Way → ℕ → ℕ → ℕ
onward Forward q k = q + k
onward Backward q k = q - k

-- the position that one comes from
abbrev pub back : Way → ℕ → ℕ
back Forward q = q - 1
back Backward q = q + 1

-- a line opens up: it is closed at the position that one comes from, and open here
abbrev pub opening : List ℕ → Way → ℕ → Bool
opening line way q = seen line (back way q) && not (seen line q)

-- a scan ends where its line is closed, and where a line beside it opens up
abbrev pub ends : Lines → Way → ℕ → Bool
ends lines way q = (seen lines.here q || opening lines.before way q) || opening lines.after way q

-- f is the first place after `at` where a scan ends
pub record First (lines : Lines) (at : ℕ) (way : Way) (f : ℕ) : Type 0 where
  pub within : f < 128
  pub after : sooner way at f ≡ true
  pub ending : ends lines way (suc f) ≡ true
  pub none : (i : ℕ) → i < 128 → sooner way at i ≡ true → sooner way i f ≡ true → ends lines way (suc i) ≡ false

-- the first place where a scan ends, or none if it comes to the end of the line
abbrev pub Next : Lines → ℕ → Way → Option ℕ → Type 0
Next lines at way (Some f) = First lines at way f
Next lines at way None = (i : ℕ) → i < 128 → sooner way at i ≡ true → ends lines way (suc i) ≡ false

-- What a scan answers: it ends first k + 1 steps on; if it is blocked there, it comes k steps far, and if not, to a stop.
pub record Scanned (lines : Lines) (at : ℕ) (way : Way) (answer : ℕ × Bool) : Type 0 where
  pub steps : ℕ
  pub none : (i : ℕ) → i < steps → ends lines way (onward way (suc at) (suc i)) ≡ false
  pub there : ends lines way (onward way (suc at) (suc steps)) ≡ true
  pub says : answer ≡ cond (seen lines.here (onward way (suc at) (suc steps))) (steps, false) (suc steps, true)

-- whether a position of a line of a half is closed; lines are shifted as positions are, so that line 0 lies outside
unfoldable pub line_at : List ℕ → Half → ℕ → ℕ → Bool
line_at words h zero q = true
line_at words h (suc l) zero = true
line_at words h (suc l) (suc i) = cond (nat_lt l h.lines && nat_lt i (64 * line_words h.long)) (shut words h l i) true

-- the three lines are copies of line l of a half and of the two beside it
pub record Around (words : List ℕ) (h : Half) (l : ℕ) (lines : Lines) : Type 0 where
  pub before : (q : ℕ) → seen lines.before q ≡ line_at words h l q
  pub here : (q : ℕ) → seen lines.here q ≡ line_at words h (suc l) q
  pub after : (q : ℕ) → seen lines.after q ≡ line_at words h (suc (suc l)) q

-- the headings that run along columns
abbrev pub upright : Heading → Bool
upright North = true
upright NorthEast = false
upright East = false
upright SouthEast = false
upright South = true
upright SouthWest = false
upright West = false
upright NorthWest = false

-- the way of a straight heading along its line
abbrev pub way_of : Heading → Way
way_of North = Backward
way_of NorthEast = Backward
way_of East = Forward
way_of SouthEast = Forward
way_of South = Forward
way_of SouthWest = Backward
way_of West = Backward
way_of NorthWest = Backward
