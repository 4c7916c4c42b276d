use Rattle.std.proofs.Common.{refl, sym, append-nil, eq-eqb, ne_eqb}
use Rattle.segments.specs.Listings.{fragment_listing}
use Rattle.segments.proofs.FurtherLaws.{reached-bad}
use Rattle.segments.proofs.walk_fragment.Goals as goal

pub returns-in_err-h : goal.returns-in_err-h
unfolding fragment_listing
returns-in_err-h c before l st =
    let a = c.args in
    reached-bad a.of a.write before a.list.now l _ c.from_residual.result c.from_residual.ensures.0 (rw (sym c.in_err-h.ensures) refl) st.judging

pub returns-then-h-of : goal.returns-then-h-of
unfolding fragment_listing
returns-then-h-of c =
    rw (sym c.in_ok-h.ensures, ne_eqb _ _ c.if-h-of.true)
    (λ before l st. record { listed = refl; standing = rw (append-nil l) st })

pub returns : goal.returns
unfolding fragment_listing
returns c = rw (sym c.in_ok-h.ensures, eq-eqb _ _ c.if-h-of.false) c.walk_own.ensures
