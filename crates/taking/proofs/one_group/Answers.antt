use Rattle.std.proofs.Common.{◌≡◌, sym, ap, ◌∙◌, Bool, List, [], ℕ, ◌+◌, ◌-◌, arith, eqb, take, drop, get_or}
use Rattle.std.proofs.lemmas.List.Folds.{list_all_at}
use lib.ListN.{length-drop}
use lib.Seq.{get_or-take, get_or-drop}
use borrow.Author.Tests.{eqb-true}
use Rattle.laws.proofs.BoolLaws.{split, clash}
use Rattle.laws.proofs.ListLaws.{first-length}
use Rattle.groups.specs.Groups.{group_in}
use Rattle.taking.proofs.one_group.Goals as goal

-- a row of another group would be told
pub returns : goal.returns
returns c =
    λ all j from to.
    let a = c.args in
    let p : List ℕ → Bool = λ tag. eqb (group_in tag) (group_in (get_or a.tags.now a.first [])) in
    let rest = drop a.first a.tags.now in
    let back : a.first + (j - a.first) ≡ j = omega (arith, from) in
    let long = first-length rest (a.n - a.first) (omega (arith, length-drop a.first a.tags.now, c.requires.1)) in
    let here : get_or (take (a.n - a.first) rest) (j - a.first) [] ≡ get_or a.tags.now j [] =
    get_or-take (a.n - a.first) rest (j - a.first) [] (omega (arith, from, to)) ∙ get_or-drop a.first a.tags.now (j - a.first) [] ∙ ap (λ (i : ℕ). get_or a.tags.now i []) back in
    split (p (get_or a.tags.now j []))
    (λ e. eqb-true _ _ e)
    (λ e. clash (sym all ∙ c.are_of.ensures ∙ list_all_at p (take (a.n - a.first) rest) (j - a.first) [] (omega (arith, from, to, long)) (ap p here ∙ e)))
