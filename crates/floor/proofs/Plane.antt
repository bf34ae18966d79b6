-- The laws of headings and steps, each by one table over the eight headings; everything else uses these laws only.
use Rattle.std.proofs.Common.{◌≡◌, true, false, not, ℤ, pos, ◌+ℤ◌, sym, refl, ap, ◌∙◌, subst, true≢false, arith}
use borrow.Author.Differences.{ints}
use Rattle.floor.specs.declared.Heading.{Heading}
use Rattle.floor.specs.declared.Heading.TheVariants.{North, NorthEast, East, SouthEast, South, SouthWest, West, NorthWest}
use Rattle.floor.specs.declared.Side.{Side}
use Rattle.floor.specs.declared.Side.TheVariants.{Left, Right}
use Rattle.floor.specs.Plane.{Point, turn, opposite, diagonal, down, across, step}

-- what holds of each of the eight headings holds of every heading
pub each : (P : Heading → Type 0) → P North → P NorthEast → P East → P SouthEast → P South → P SouthWest → P West → P NorthWest → (h : Heading) → P h
each P a b c d k l m z North = a
each P a b c d k l m z NorthEast = b
each P a b c d k l m z East = c
each P a b c d k l m z SouthEast = d
each P a b c d k l m z South = k
each P a b c d k l m z SouthWest = l
each P a b c d k l m z West = m
each P a b c d k l m z NorthWest = z

-- ---- turning

-- the other side
abbrev pub other : Side → Side
other Left = Right
other Right = Left

pub both_sides : (a : Side) (P : Side → Type 0) → P a → P (other a) → (b : Side) → P b
both_sides Left P x y Left = x
both_sides Left P x y Right = y
both_sides Right P x y Left = y
both_sides Right P x y Right = x

pub turn_back : (a : Side) (h : Heading) → turn a (turn (other a) h) ≡ h
turn_back Left = each (λ h. turn Left (turn Right h) ≡ h) refl refl refl refl refl refl refl refl
turn_back Right = each (λ h. turn Right (turn Left h) ≡ h) refl refl refl refl refl refl refl refl

pub turn_forth : (a : Side) (h : Heading) → turn (other a) (turn a h) ≡ h
turn_forth Left h = turn_back Right h
turn_forth Right h = turn_back Left h

-- four turns to either side are the opposite heading
pub about : (a : Side) (h : Heading) → turn a (turn a (turn a (turn a h))) ≡ opposite h
about Left = λ h. refl
about Right = each (λ h. turn Right (turn Right (turn Right (turn Right h))) ≡ opposite h) refl refl refl refl refl refl refl refl

pub opposite_twice : (h : Heading) → opposite (opposite h) ≡ h
opposite_twice = each (λ h. opposite (opposite h) ≡ h) refl refl refl refl refl refl refl refl

pub turn_opposite : (a : Side) (h : Heading) → turn a (opposite h) ≡ opposite (turn a h)
turn_opposite Left = each (λ h. turn Left (opposite h) ≡ opposite (turn Left h)) refl refl refl refl refl refl refl refl
turn_opposite Right = each (λ h. turn Right (opposite h) ≡ opposite (turn Right h)) refl refl refl refl refl refl refl refl

pub turn_diagonal : (a : Side) (h : Heading) → diagonal (turn a h) ≡ not (diagonal h)
turn_diagonal Left = each (λ h. diagonal (turn Left h) ≡ not (diagonal h)) refl refl refl refl refl refl refl refl
turn_diagonal Right = each (λ h. diagonal (turn Right h) ≡ not (diagonal h)) refl refl refl refl refl refl refl refl

pub opposite_diagonal : (h : Heading) → diagonal (opposite h) ≡ diagonal h
opposite_diagonal = each (λ h. diagonal (opposite h) ≡ diagonal h) refl refl refl refl refl refl refl refl

-- beside a straight heading lies a diagonal one, and beside a diagonal one a straight one
pub beside_straight : (a : Side) (h : Heading) → diagonal h ≡ false → diagonal (turn a h) ≡ true
beside_straight a h d = turn_diagonal a h ∙ ap not d

pub beside_diagonal : (a : Side) (h : Heading) → diagonal h ≡ true → diagonal (turn a h) ≡ false
beside_diagonal a h d = turn_diagonal a h ∙ ap not d

-- How one heading lies to another.
pub data Turned (h : Heading) : Heading → Type 0 where
  ahead : Turned h h
  behind : Turned h (opposite h)
  by1 : (a : Side) → Turned h (turn a h)
  by2 : (a : Side) → Turned h (turn a (turn a h))
  by3 : (a : Side) → Turned h (turn a (turn a (turn a h)))

pub turned : (h g : Heading) → Turned h g
turned North = each (Turned North) ahead (by1 Right) (by2 Right) (by3 Right) behind (by3 Left) (by2 Left) (by1 Left)
turned NorthEast = each (Turned NorthEast) (by1 Left) ahead (by1 Right) (by2 Right) (by3 Right) behind (by3 Left) (by2 Left)
turned East = each (Turned East) (by2 Left) (by1 Left) ahead (by1 Right) (by2 Right) (by3 Right) behind (by3 Left)
turned SouthEast = each (Turned SouthEast) (by3 Left) (by2 Left) (by1 Left) ahead (by1 Right) (by2 Right) (by3 Right) behind
turned South = each (Turned South) behind (by3 Left) (by2 Left) (by1 Left) ahead (by1 Right) (by2 Right) (by3 Right)
turned SouthWest = each (Turned SouthWest) (by3 Right) behind (by3 Left) (by2 Left) (by1 Left) ahead (by1 Right) (by2 Right)
turned West = each (Turned West) (by2 Right) (by3 Right) behind (by3 Left) (by2 Left) (by1 Left) ahead (by1 Right)
turned NorthWest = each (Turned NorthWest) (by1 Right) (by2 Right) (by3 Right) behind (by3 Left) (by2 Left) (by1 Left) ahead

-- ---- stepping

pub at : {r r' c c' : ℤ} → r ≡ r' → c ≡ c' → ◌≡◌ {A = Point} (record { row = r; col = c }) (record { row = r'; col = c' })
at p q = λ i. record { row = p i; col = q i }

back_down : (h : Heading) → down h +ℤ down (opposite h) ≡ pos 0
back_down = each (λ h. down h +ℤ down (opposite h) ≡ pos 0) refl refl refl refl refl refl refl refl

back_across : (h : Heading) → across h +ℤ across (opposite h) ≡ pos 0
back_across = each (λ h. across h +ℤ across (opposite h) ≡ pos 0) refl refl refl refl refl refl refl refl

-- a straight heading and the one two turns on add up to the diagonal between
abbrev Sum : (Heading → ℤ) → Side → Heading → Type 0
Sum part a h = diagonal h ≡ false → part h +ℤ part (turn a (turn a h)) ≡ part (turn a h)

never : {A : Type 0} → true ≡ false → A
never d = absurd (true≢false d)

sum_down : (a : Side) (h : Heading) → Sum down a h
sum_down Left = each (Sum down Left) (λ d. refl) (λ d. never d) (λ d. refl) (λ d. never d) (λ d. refl) (λ d. never d) (λ d. refl) (λ d. never d)
sum_down Right = each (Sum down Right) (λ d. refl) (λ d. never d) (λ d. refl) (λ d. never d) (λ d. refl) (λ d. never d) (λ d. refl) (λ d. never d)

sum_across : (a : Side) (h : Heading) → Sum across a h
sum_across Left = each (Sum across Left) (λ d. refl) (λ d. never d) (λ d. refl) (λ d. never d) (λ d. refl) (λ d. never d) (λ d. refl) (λ d. never d)
sum_across Right = each (Sum across Right) (λ d. refl) (λ d. never d) (λ d. refl) (λ d. never d) (λ d. refl) (λ d. never d) (λ d. refl) (λ d. never d)

-- a step and the step of the opposite heading
pub undo : (h : Heading) (x : Point) → step (opposite h) (step h x) ≡ x
unfolding step
undo h x = at (omega (arith, ints, back_down h)) (omega (arith, ints, back_across h))

pub redo : (h : Heading) (x : Point) → step h (step (opposite h) x) ≡ x
redo h x = subst (λ g. step g (step (opposite h) x) ≡ x) (opposite_twice h) (undo (opposite h) x)

-- two steps in either order
pub swap : (g h : Heading) (x : Point) → step g (step h x) ≡ step h (step g x)
unfolding step
swap g h x = at (omega (arith, ints)) (omega (arith, ints))

-- the diagonal beside a straight heading h is h and then the straight heading beyond the diagonal
pub beside : (a : Side) (h : Heading) (x : Point) → diagonal h ≡ false → step (turn a h) x ≡ step (turn a (turn a h)) (step h x)
unfolding step
beside a h x d = at (omega (arith, ints, sum_down a h d)) (omega (arith, ints, sum_across a h d))

-- ---- two steps in a row

-- a diagonal step and the straight one three turns on are the straight step beside the first
pub diagonal_by3 : (a : Side) (h : Heading) (x : Point) → diagonal h ≡ true → step (turn a (turn a (turn a h))) (step h x) ≡ step (turn a h) x
diagonal_by3 a h x d =
    let k : Heading = turn (other a) h in
    let e : step h x ≡ step (turn a h) (step k x) = subst (λ z. step z x ≡ step (turn a z) (step k x)) (turn_back a h) (beside a k x (beside_diagonal (other a) h d)) in
    let u : step (turn a (turn a (turn a (turn a k)))) (step k (step (turn a h) x)) ≡ step (turn a h) x =
    subst (λ z. step z (step k (step (turn a h) x)) ≡ step (turn a h) x) (sym (about a k)) (undo k (step (turn a h) x)) in
    ap (step (turn a (turn a (turn a h)))) (e ∙ swap (turn a h) k x) ∙
    subst (λ z. step (turn a (turn a (turn a z))) (step k (step (turn a h) x)) ≡ step (turn a h) x) (turn_back a h) u

-- a diagonal step and the diagonal one two turns on are two straight steps between them
pub diagonal_by2 : (a : Side) (h : Heading) (x : Point) → diagonal h ≡ true → step (turn a (turn a h)) (step h x) ≡ step (turn a h) (step (turn a h) x)
diagonal_by2 a h x d =
    beside a (turn a h) (step h x) (beside_diagonal a h d) ∙
    ap (step (turn a (turn a (turn a h)))) (swap (turn a h) h x) ∙
    diagonal_by3 a h (step (turn a h) x) d

-- a straight step and the diagonal one three turns on are the straight step two turns on
pub straight_by3 : (a : Side) (h : Heading) (x : Point) → diagonal h ≡ false → step (turn a (turn a (turn a h))) (step h x) ≡ step (turn a (turn a h)) x
straight_by3 a h x d =
    let u : step (turn a (turn a (turn a (turn a h)))) (step h (step (turn a (turn a h)) x)) ≡ step (turn a (turn a h)) x =
    subst (λ z. step z (step h (step (turn a (turn a h)) x)) ≡ step (turn a (turn a h)) x) (sym (about a h)) (undo h (step (turn a (turn a h)) x)) in
    beside a (turn a (turn a h)) (step h x) (beside_diagonal a (turn a h) (beside_straight a h d)) ∙
    ap (step (turn a (turn a (turn a (turn a h))))) (swap (turn a (turn a h)) h x) ∙ u
