-- The appends of a batch on a head and two arrays, and where they stand after some of them.
use Rattle.std.specs.Prelude.{◌≡◌, true, List, ◌++◌, map, ℕ, ◌+◌, ℤ, length, drop, Ok}
use Rattle.buffer_state.specs.declared.Head.{Head}
use Rattle.buffer_state.specs.declared.Offered.{Offered}
use Rattle.buffer_state.specs.Answers.{written}
use Rattle.buffer_state.specs.Batch.{Batch, offered_in, append_each}
use Rattle.buffer_state.specs.Buffer.{Buffer}
use Rattle.buffer_state.specs.Layout.{buffer_of}
use Rattle.buffer_state.specs.Lent.{state_at, well_formed_at}
use Rattle.buffer_state.specs.Refusals.{CallResult}
use Rattle.buffer_state.specs.Store.{Line}
use Rattle.batch.specs.Bounds.{IsBounded}

-- the appends of the rows' frames
unfoldable pub each_at : List (List ℤ) → Head → List (List ℤ) → List (List ℕ) → CallResult Batch
each_at rows h ts gs = Ok (append_each (map offered_in rows) (buffer_of (state_at h ts gs)))

-- what a batch comes to, of which so many frames were accepted and these lines told before
abbrev pub onwards : ℕ → List Line → Batch → Batch
onwards n told r = record {
  outcome = record { after = r.outcome.after; lines = told ++ r.outcome.lines };
  accepted = n + r.accepted;
  stop = r.stop;
}

-- After the first i frames fs of a batch on buffer b, with so many frames stored at first: the state, the bounds, and the lines in the list.
pub record Going (b : Buffer) (fs : List Offered) (lines₀ : List (List ℕ)) (i : ℕ) (h : Head) (ts : List (List ℤ)) (gs : List (List ℕ)) (bounds : List ℤ) (at : ℕ) (lines : List (List ℕ)) : Type 0 where
  pub whole : well_formed_at h ts gs ≡ true
  pub told : List Line
  pub rest : append_each fs b ≡ onwards i told (append_each (drop i fs) (buffer_of (state_at h ts gs)))
  pub count : at ≡ length told
  pub list : lines ≡ written told ++ drop at lines₀
  pub room : at + h.nframes ≡ length b.frames + i
  pub bounded : IsBounded bounds (buffer_of (state_at h ts gs)).frames
