use Rattle.std.proofs.Common.{ℕ, ◌<◌, length, ap, ◌∙◌, arith, List, ℤ, set}
use Rattle.buffer_state.specs.Lent.{time_of, tag_of}
use Rattle.places.proofs.InsertLaws.{goes-inside, times-filled, tags-filled}
use Rattle.places.proofs.OpenLaws.{copied}
use Rattle.places.proofs.insert.Goals as goal

pub returns : goal.returns
returns c =
    let x = c.args in
    let p : ℕ = c.place_of-p.result in
    let inside = goes-inside x.f x.times.now x.tags.now x.n p c.requires.0 c.requires.1 c.requires.2 c.place_of-p.ensures in
    let room : x.n < length x.times.now = omega (arith, c.requires.0, c.requires.1.0) in
    let room-2 : x.n < length x.tags.now = omega (arith, c.requires.0, c.requires.1.1) in record {
      times = c.put_at.ensures.times ∙ ap (λ (l : List (List ℤ)). set l p (time_of x.f)) (c.copy_within.ensures.after ∙ copied x.times.now x.n room p inside)
          ∙ times-filled x.f x.times.now x.tags.now x.n p c.requires.0 c.requires.1 c.requires.2 c.place_of-p.ensures;
      tags = c.put_at.ensures.tags ∙ ap (λ (l : List (List ℕ)). set l p (tag_of x.f)) (c.copy_within-2.ensures.after ∙ copied x.tags.now x.n room-2 p inside)
          ∙ tags-filled x.f x.times.now x.tags.now x.n p c.requires.0 c.requires.1 c.requires.2 c.place_of-p.ensures;
    }
