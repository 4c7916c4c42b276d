use Rattle.std.proofs.Common.{◌≡◌, sym, ap, ◌∙◌, [], ◌∷◌, ◌≤◌, arith, length, set}
use Rattle.buffer_state.specs.declared.Head.{Head}
use Rattle.buffer_state.specs.Answers.{head_after, list_after}
use Rattle.buffer_state.specs.Append.{Outcome}
use Rattle.buffer_state.specs.Buffer.{Buffer}
use Rattle.buffer_state.specs.Lent.{head_of}
use Rattle.buffer_state.specs.Limits.{places}
use Rattle.buffer_state.specs.Refusals.{CallResult}
use Rattle.append.proofs.SettleLaws.{drop-result, one_line}
use Rattle.append.proofs.drop_frame.Goals as goal
use Rattle.append.proofs.drop_frame.Goals.{Start}

-- a buffer that has the head has no more frames than places
few : (s : Start) (b : Buffer) → s.args.h ≡ head_of b → length b.frames ≤ places
few s b e = omega (arith, s.requires.1, ap (λ (k : Head). k.nframes) e)

pub returns : goal.returns
returns c =
    let a = c.args in record {
      head = (λ b e q.
          let res = drop-result (record { buffer = b; frame = a.g }) a.cause q c.requires.3 (few (goal.at.returns c).Start b e) in
          c.dropped_head-t.ensures b e ∙ ap (λ (x : CallResult Outcome). head_after x a.h) (sym res));
      lines = (λ b e q.
          let res = drop-result (record { buffer = b; frame = a.g }) a.cause q c.requires.3 (few (goal.at.returns c).Start b e) in
          ((λ j. set a.fates.now 0 ((c.dropped_head-t.ensures b e j).last ∷ a.cause ∷ [])) ∙ one_line a.fates.now _ (omega (arith, c.requires.4)))
          ∙ ap (λ (x : CallResult Outcome). list_after x a.fates.now) (sym res));
    }
