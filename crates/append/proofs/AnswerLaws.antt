-- The call's result: each refusal where its test is the first to pass, and after all of them the last pass settled.
use Rattle.std.specs.Prelude.{Ok, Err}
use mathlib.Core.Path.{◌≡◌, refl, sym, ap, ◌∙◌}
use mathlib.Core.Bool.{Bool, true, false, ◌&&◌}
use mathlib.Core.List.{List}
use Prim.Native.Nat.{ℕ, ◌≤◌, ◌<◌}
use native.Mathlib.Omega.{arith}
use lib.Dec.{leb, ltb, eqb}
use lib.IntN.{ℤ}
use lib.ListN.{length}
use borrow.Author.Tests.{lt-ltb, le-ltb, eq-eqb, eqb-false, leb-true}
use Rattle.laws.proofs.BoolLaws.{clash, and_left, and_right}
use Rattle.buffer_state.specs.declared.Frame.{Frame}
use Rattle.buffer_state.specs.declared.Head.{Head}
use Rattle.buffer_state.specs.declared.Offered.{Offered}
use Rattle.buffer_state.specs.declared.Refusal.{Refusal}
use Rattle.buffer_state.specs.declared.Refusal.TheVariants.{ShortFates, NoTrack, FrameLimits, ResultLimits, Full, LastNumber}
use Rattle.buffer_state.specs.Answers.{append_result}
use Rattle.buffer_state.specs.Append.{Pass, last_pass, leaves_limits, lacks_group, appended_outcome, is_offerable, append}
use Rattle.buffer_state.specs.Buffer.{Buffer}
use Rattle.buffer_state.specs.Layout.{zero_frame, padded_list, buffer_of}
use Rattle.buffer_state.specs.Lent.{times_of, tags_of, state_at, head_of, well_formed_at}
use Rattle.buffer_state.specs.Limits.{places, last_number}
use Rattle.buffer_state.specs.Refusals.{CallResult, refuse_if}
use Rattle.buffer_laws.proofs.AppendLaws.{last-from, last_pass-good}
use Rattle.buffer_laws.proofs.GoodLaws.{IsGood, facts-good}
use Rattle.buffer_laws.proofs.LayoutLaws.{few-tracks}
use Rattle.buffer_laws.proofs.LentLaws.{Holds, lent-good, lent_back, held_back, laid-well_formed, on-well_formed}
use Rattle.heads.specs.Heads.{IsGoodHead, HasTrack, decision}
use Rattle.validation.specs.Tests.{checked}
use Rattle.validation.proofs.CheckLaws.{refused_by}
use Rattle.append.specs.Settled.{settled_result, pass_at, IsReady}
use Rattle.append.proofs.StoredLaws.{held-good, held-head, held-count}

is_done : CallResult Pass → Bool
is_done (Err why) = false
is_done (Ok p) = true

-- why a result is refused; of one that is done, any refusal
why_of : CallResult Pass → Refusal
why_of (Err why) = why
why_of (Ok p) = Full

module _ (lent : ℕ) (f : Offered) (h : Head) (ts : List (List ℤ)) (gs : List (List ℕ)) where
  abbrev held : Buffer
  held = buffer_of (state_at h ts gs)

  pub refused-one : {why : Refusal} → checked (well_formed_at h ts gs) ≡ Err why → append_result lent f h ts gs ≡ Err why
  unfolding append_result
  refused-one e = refused_by (append lent f) h ts gs e

  module _ (w : well_formed_at h ts gs ≡ true) where
    whole : append_result lent f h ts gs ≡ append lent f held
    unfolding append_result
    whole = on-well_formed (append lent f) h ts gs w

    pub refused-two : lent < places → append_result lent f h ts gs ≡ Err ShortFates
    unfolding append
    refused-two e = whole ∙ rw (lt-ltb lent places e)

    -- more lines than are needed make no difference
    pub enough : places ≤ lent → append_result lent f h ts gs ≡ append_result places f h ts gs
    unfolding append append_result
    enough lines = whole ∙ rw (le-ltb lent places lines) (sym (on-well_formed (append places f) h ts gs w))

    module _ (lines : places ≤ lent) where
      count : length held.tracks ≡ h.ntracks
      count = ap (λ (k : Head). k.ntracks) (sym (held-head h ts gs w))

      pub refused-three : (leb 1 f.track && leb f.track h.ntracks) ≡ false → append_result lent f h ts gs ≡ Err NoTrack
      unfolding append
      refused-three e = whole ∙ rw (le-ltb lent places lines, count, e)

      module _ (track : (leb 1 f.track && leb f.track h.ntracks) ≡ true) where
        pub refused-four : is_offerable f ≡ false → append_result lent f h ts gs ≡ Err FrameLimits
        unfolding append
        refused-four e = whole ∙ rw (le-ltb lent places lines, count, track, e)

        module _ (good : is_offerable f ≡ true) where
          pub refused-nine : h.last ≡ last_number → append_result lent f h ts gs ≡ Err LastNumber
          unfolding append
          refused-nine e = whole ∙ rw (le-ltb lent places lines, count, track, good, eq-eqb h.last last_number e)

          module _ (number : eqb h.last last_number ≡ false) where
            -- refusals 7 and 9 in their order, as both passes decide
            pub stops : (why : Refusal) → decision held f ≡ Err why → append_result lent f h ts gs ≡ Err why
            unfolding append decision why_of is_done
            stops why e = whole ∙ rw (le-ltb lent places lines, count, track, good, number) (go (leaves_limits held f) (lacks_group held f) e)
              where
                go : (x y : Bool) → refuse_if x ResultLimits (refuse_if y LastNumber (Ok (last_pass held f))) ≡ Err why
                    → refuse_if x ResultLimits (refuse_if y LastNumber (refuse_if (ltb places (length (appended_outcome held f).after.frames)) Full (Ok (appended_outcome held f)))) ≡ Err why
                go true y d = ap (λ (r : CallResult Pass). Err (why_of r)) d
                go false true d = ap (λ (r : CallResult Pass). Err (why_of r)) d
                go false false d = clash (ap is_done d)

            pub goes_on : leaves_limits held f ≡ false → lacks_group held f ≡ false → append_result lent f h ts gs ≡ settled_result (last_pass held f)
            unfolding append appended_outcome settled_result
            goes_on e g = whole ∙ rw (le-ltb lent places lines, count, track, good, number, e, g)

-- ---- a head and arrays that hold a buffer

module _ (h : Head) (ts : List (List ℤ)) (gs : List (List ℕ)) (c : Buffer) (e : Holds h ts gs c) where
  holds-back : buffer_of (state_at h ts gs) ≡ c
  holds-back = (λ j. buffer_of (state_at (e.head j) (e.times j) (e.tags j))) ∙ held_back c

  holds-whole : IsGood c → well_formed_at h ts gs ≡ true
  holds-whole g = (λ j. well_formed_at (e.head j) (e.times j) (e.tags j)) ∙ laid-well_formed c (facts-good c g)

-- ---- a well-formed state and its last pass

module _ (h : Head) (ts : List (List ℤ)) (gs : List (List ℕ)) (w : well_formed_at h ts gs ≡ true) where
  pub state-head : IsGoodHead h
  state-head = record { held = buffer_of (state_at h ts gs); laid = held-head h ts gs w; good = lent-good h ts gs w }

  module _ (f : Offered) where
    pub state-track : (leb 1 f.track && leb f.track h.ntracks) ≡ true → HasTrack h f.track
    state-track t =
        let few = few-tracks (buffer_of (state_at h ts gs)) (lent-good h ts gs w) in
        let count = ap (λ (k : Head). k.ntracks) (held-head h ts gs w) in
        (leb-true 1 f.track (and_left _ _ t), leb-true f.track h.ntracks (and_right (leb 1 f.track) _ t), omega (arith, few, count))

    abbrev last : Pass
    last = last_pass (buffer_of (state_at h ts gs)) f

    pub last_pass-track : last.frame.track ≡ f.track
    last_pass-track = (last-from (buffer_of (state_at h ts gs)) f).frame.track

    pub last_pass-count : length last.buffer.frames ≡ h.nframes
    last_pass-count = ap length (last-from (buffer_of (state_at h ts gs)) f).buffer.frames ∙ sym (held-count h ts gs w)

    -- no pass changes the frames
    last-held : Holds (head_of last.buffer) ts gs last.buffer
    last-held =
        let same : (buffer_of (state_at h ts gs)).frames ≡ last.buffer.frames = sym (last-from (buffer_of (state_at h ts gs)) f).buffer.frames in
        record {
          head = refl;
          times = (lent_back h ts gs w).times ∙ ap (λ (fs : List Frame). times_of (padded_list places zero_frame fs)) same;
          tags = (lent_back h ts gs w).tags ∙ ap (λ (fs : List Frame). tags_of (padded_list places zero_frame fs)) same;
        }

    pub last_pass-back : pass_at (head_of last.buffer) ts gs last.frame ≡ last
    last_pass-back = let b = holds-back (head_of last.buffer) ts gs last.buffer last-held in λ j. record { buffer = b j; frame = last.frame }

    pub last_pass-ready : HasTrack h f.track → eqb h.last last_number ≡ false → leaves_limits (buffer_of (state_at h ts gs)) f ≡ false
        → lacks_group (buffer_of (state_at h ts gs)) f ≡ false → IsReady (head_of last.buffer) ts gs last.frame
    last_pass-ready t n inside group =
        let b = buffer_of (state_at h ts gs) in
        let from = last-from b f in
        let good = last_pass-good b f (held-good h ts gs w) inside group in
        let width : length last.buffer.tracks ≡ h.ntracks = from.buffer.width ∙ ap (λ (k : Head). k.ntracks) (sym (held-head h ts gs w)) in
        let track : HasTrack (head_of last.buffer) last.frame.track = rw (from.frame.track, width) t in
        record {
          whole = holds-whole (head_of last.buffer) ts gs last.buffer last-held good.buffer;
          track = track;
          pts = good.fit.pts;
          number = rw from.buffer.last (omega (arith, eqb-false h.last last_number n, (held-good h ts gs w).last));
        }
