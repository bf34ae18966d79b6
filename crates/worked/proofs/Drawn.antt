-- Idea: inside, fifteen cells are compared by one computed test, whatever was open before; outside, nothing is open in either plan.
use Rattle.std.proofs.Common.{◌≡◌, ℕ, Bool, true, false, ◌&&◌, ltb, List, [], ◌∷◌, sym, refl, ap, ◌∙◌, subst, inl, inr}
use mathlib.Core.Path.{fun_ext}
use Rattle.std.proofs.lemmas.Bool.{and_parts, eqb-true, ltb-true, cases_Bool}
use Rattle.floor.specs.declared.Cell.{Cell}
use Rattle.floor.specs.Plans.{Plan, Sized, inside, marked}
use Rattle.source.specs.Drawing.{opened}
use Rattle.worked.specs.Examples.{cell, drawn}
use Rattle.worked.specs.Table.{corridor}
use Rattle.worked.specs.Corridor.{fits}
use Rattle.worked.proofs.Tests.{same_bool, same_bool_is, below, below_is, in_limits_is}

-- the cells of three rows of five
abbrev pub cells : List Cell
cells =
    cell 0 0 ∷ cell 0 1 ∷ cell 0 2 ∷ cell 0 3 ∷ cell 0 4
    ∷ cell 1 0 ∷ cell 1 1 ∷ cell 1 2 ∷ cell 1 3 ∷ cell 1 4
    ∷ cell 2 0 ∷ cell 2 1 ∷ cell 2 2 ∷ cell 2 3 ∷ cell 2 4 ∷ []

-- all cells opened, and then one closed
abbrev redrawn : Plan → Plan
redrawn p = marked (opened p cells) (cell 0 1) false

abbrev free_only : (ℕ → ℕ → Bool) → Plan
free_only free = record { rows = 3; cols = 5; free = free }

-- what was open before does not matter
inside_same : (free : ℕ → ℕ → Bool) → below (λ r. below (λ c. same_bool ((redrawn (free_only free)).free r c) ((drawn corridor).free r c)) 5) 3 ≡ true
inside_same free = refl

-- a plan of that size is its cells
sized_free : (p : Plan) → fits p ≡ true → p ≡ free_only p.free
sized_free p e =
    let h = and_parts _ _ e in
    let a = eqb-true p.rows 3 h.0 in
    let b = eqb-true p.cols 5 h.1 in
    λ i. record { rows = a i; cols = b i; free = p.free }

same_cell : (free : ℕ → ℕ → Bool) → Sized (redrawn (free_only free)) → (r c : ℕ) → (redrawn (free_only free)).free r c ≡ (drawn corridor).free r c
same_cell free z r c = elim (cases_Bool (ltb r 3 && ltb c 5)) [
  | inl e ↦
      let h = and_parts _ _ e in
      let row = below_is (λ r. below (λ c. same_bool ((redrawn (free_only free)).free r c) ((drawn corridor).free r c)) 5) 3 (inside_same free) r (ltb-true _ _ h.0) in
      same_bool_is _ _ (below_is (λ c. same_bool ((redrawn (free_only free)).free r c) ((drawn corridor).free r c)) 5 row c (ltb-true _ _ h.1))
  | inr e ↦ z.bounded r c e ∙ sym ((in_limits_is corridor refl).bounded r c e)
]

-- a plan of that size with all cells opened
pub opened_inside : (p q : Plan) → fits p ≡ true → q ≡ opened p cells → inside q (cell 0 1) ≡ true
opened_inside p q fit all =
    ap (λ x. inside x (cell 0 1)) all ∙ subst (λ x. inside (opened x cells) (cell 0 1) ≡ true) (sym (sized_free p fit)) refl

-- and then with the one closed is the corridor
pub redrawn_is : (p q r : Plan) → fits p ≡ true → q ≡ opened p cells → r ≡ marked q (cell 0 1) false → Sized r → r ≡ drawn corridor
redrawn_is p q r fit all shut z =
    let is : r ≡ redrawn (free_only p.free) = shut ∙ ap (λ x. marked x (cell 0 1) false) all ∙ ap redrawn (sized_free p fit) in
    let same = fun_ext (λ r. fun_ext (λ c. same_cell p.free (subst Sized is z) r c)) in
    is ∙ (λ i. free_only (same i))
