use Rattle.std.proofs.Common.{◌≡◌, refl, sym, ap, ◌∙◌, subst, true, false, ℕ, [], Some, Option, Ok, length}
use Rattle.segments.specs.Listings.{movie_listing}
use Rattle.segments.specs.Segments.{all_in_limits}
use Rattle.segments.specs.Walks.{known, samples_in, Further}
use Rattle.segments.specs.declared.Walk.{Walk}
use Rattle.segments.proofs.ListedLaws.{gives-limits, gives-short, gives-rows, judged-good, judged-over, judged-count, written}
use Rattle.segments.proofs.listed.Goals as goal
use Rattle.segments.proofs.listed.Goals.{In-Some}

-- what the walk that judged knows
further : (c : In-Some) → let a = c.args in Further a.of false a.list.now [] (movie_listing a.of a.b.now) (known (Some c.in-Some.w)) a.list.now
further c =
    let a = c.args in
    subst (λ (x : Option Walk). Further a.of false a.list.now [] (movie_listing a.of a.b.now) (known x) a.list.now) c.in-Some.is c.requires

inside : (c : In-Some) → let a = c.args in all_in_limits a.of.timescale (samples_in (movie_listing a.of a.b.now)) ≡ true
inside c = let a = c.args in sym (judged-good a.of a.list.now _ (known (Some c.in-Some.w)) (further c))

pub returns-in_default : goal.returns-in_default
returns-in_default c =
    let a = c.args in
    let out = sym (judged-good a.of a.list.now _ (known a.w) c.requires) ∙ ap (λ (x : Option Walk). (known x).good) c.in_default.is in
    rw (gives-limits a.of a.b.now (length a.list.now) _ c.requires.listed out) (record { value = refl; list_after = refl })

pub returns-then-w : goal.returns-then-w
returns-then-w c =
    let a = c.args in
    let s = (goal.at.returns-then-w c).In-Some in
    rw (gives-short a.of a.b.now (length a.list.now) _ c.requires.listed (inside s) (sym (judged-over a.of a.list.now _ (known (Some c.in-Some.w)) (further s) refl) ∙ c.if-w.true)) (record { value = refl; list_after = refl })

pub returns : goal.returns
returns c =
    let a = c.args in
    let more = movie_listing a.of a.b.now in
    let s = (goal.at.returns c).In-Some in
    let o = sym (judged-over a.of a.list.now more (known (Some c.in-Some.w)) (further s) refl) ∙ c.if-w.false in
    rw (gives-rows a.of a.b.now (length a.list.now) (samples_in more) c.requires.listed (inside s) o) (record {
      value = ap (λ (n : ℕ). Ok n) (judged-count a.of a.list.now more (known (Some c.in-Some.w)) (further s) refl o);
      list_after = written a.of a.list.now more c.walk_whole.result _ c.walk_whole.ensures c.requires.listed (inside s) o;
    })
