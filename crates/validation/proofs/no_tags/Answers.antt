use Rattle.std.proofs.Common.{refl, ap, ap₂, ◌∙◌, Bool, ◌&&◌, bit_or, eqb}
use Rattle.buffer_state.specs.WellFormed.{all_of}
use Rattle.validation.specs.Tests.{is_zero_tag}
use Rattle.validation.proofs.ZeroLaws.{or-none, ended, rows_past, past-is, past-width, tags-turn}
use Rattle.validation.proofs.no_tags.Goals as goal

pub loop-tag-init : goal.loop-tag-init
loop-tag-init c = refl

pub loop-tag-preserved : goal.loop-tag-preserved
loop-tag-preserved c =
    let gs = rows_past c.args.tags.now c.args.n in
    let l = c.loop-tag in
    tags-turn gs l.tag-index c.loop-tag-test.true (past-width c.args.tags.now c.args.n 5 c.told-tags l.tag-index c.loop-tag-test.true) l.a l.b l.c l.d l.e ∙ l.invariant

pub returns : goal.returns
returns c =
    let l = c.loop-tag in
    or-none (bit_or (bit_or l.a l.b) (bit_or l.c l.d)) l.e
    ∙ ap (λ (x : Bool). x && eqb l.e 0)
    (or-none (bit_or l.a l.b) (bit_or l.c l.d) ∙ ap₂ (λ (x y : Bool). x && y) (or-none l.a l.b) (or-none l.c l.d))
    ∙ ended is_zero_tag (rows_past c.args.tags.now c.args.n) l.tag-index _ _ c.loop-tag-test.false l.invariant
    ∙ ap (all_of is_zero_tag) (past-is c.args.tags.now c.args.n)
