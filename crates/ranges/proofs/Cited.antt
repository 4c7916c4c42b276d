-- What a reader can cite of a report that is not refused: an instant is reported as held exactly when it is covered, neighbouring
-- ranges never touch, and an instant that is not covered parts the ranges around it. And of the count of frames that a report's walk takes.
use Rattle.std.specs.Prelude.{Ok, Err}
use mathlib.Core.Path.{◌≡◌, refl, sym, ap, ◌∙◌}
use mathlib.Core.Bool.{Bool, true, false, not, ◌&&◌, ◌||◌}
use mathlib.Core.List.{List, [], ◌∷◌, ◌++◌}
use Prim.Native.Nat.{ℕ, zero, suc, ◌≤◌}
use native.Mathlib.Omega.{arith}
use lib.Dec.{ltb, leb, eqb}
use lib.IntN.{ℤ}
use lib.ListN.{length, take, drop, length-map, drop_of_length-le}
use lib.Seq.{take_at}
use lib.Signed.{lt_z, ◌<ℤ◌}
use borrow.Author.Tests.{leb-true}
use Rattle.laws.proofs.BoolLaws.{split, both_ways, and_left, and_right, or-none-left, or-none-right}
use Rattle.laws.proofs.IntLaws.{weaken, le-lt, lt-lt}
use Rattle.buffer_state.specs.declared.Frame.{Frame}
use Rattle.buffer_state.specs.declared.Head.{Head}
use Rattle.buffer_state.specs.declared.Refusal.{Refusal}
use Rattle.buffer_state.specs.declared.Refusal.TheVariants.{NoTrack, ShortList}
use Rattle.buffer_state.specs.Answers.{range_count, ranges_after, laid_ranges, track_ranges_result, common_ranges_result, walked_result}
use Rattle.buffer_state.specs.Buffer.{Buffer, has_track}
use Rattle.buffer_state.specs.Layout.{buffer_of}
use Rattle.buffer_state.specs.Lent.{state_at, well_formed_at}
use Rattle.buffer_state.specs.Ranges.{Range, lies_in, in_ranges, is_rising, covered_on, covered_on_all, ranges_of, common_ranges_of, track_ranges, common_ranges}
use Rattle.buffer_state.specs.Refusals.{CallResult, refuse_if}
use Rattle.buffer_state.specs.Run.{count}
use Rattle.buffer_state.specs.Walked.{walked}
use Rattle.buffer_state.specs.WellFormed.{all_of, good_count, good_tracks, good_buffer}
use Rattle.buffer_laws.proofs.GoodLaws.{good-facts}
use Rattle.buffer_laws.proofs.LentLaws.{lent-good, on-well_formed}
use Rattle.buffer_laws.proofs.RangeLaws.{ranges-cover}
use Rattle.buffer_laws.proofs.ReportLaws.{report-rises, common-report-rises}
use Rattle.buffer_laws.proofs.CommonLaws.{common-cover}
use Rattle.buffer_laws.proofs.RisingLaws.{lies-from, lies-to, lies-between}
use Rattle.buffer_laws.proofs.TestLaws.{all_none, all_more}
use Rattle.ranges.specs.Bars.{Reported}
use Rattle.ranges.specs.Read.{ranges_in}
use Rattle.ranges.specs.Sweep.{is_sound, own_stretches}
use Rattle.ranges.proofs.BarLaws.{laid-read}
use Rattle.ranges.proofs.CallLaws.{track-ill-formed, common-ill-formed, walked-ill-formed}
use Rattle.ranges.proofs.OwnLaws.{own-count, own-length, presented-taken}
use Rattle.ranges.proofs.StoresLaws.{well_formed-stores}
use Rattle.ranges.proofs.TakenLaws.{taken_by}

-- the first range, or the later ones
first : (t : ℤ) (q : Range) (qs : List Range) → in_ranges t (q ∷ qs) ≡ false → (lies_in t q || in_ranges t qs) ≡ false
unfolding in_ranges
first t q qs e = e

some-track : (b : Buffer) → good_buffer b ≡ true → 1 ≤ length b.tracks
unfolding good_tracks
some-track b h = leb-true 1 (length b.tracks) (and_left (leb 1 (length b.tracks)) _ (and_left (good_count (length b.tracks)) _ (good-facts b h).tracks))

-- ---- a report that is not refused, read back

refusal-no-count : {why : Refusal} {n : ℕ} → ◌≡◌ {A = CallResult ℕ} (Err why) (Ok n) → ⊥
refusal-no-count e = let z : ◌≡◌ {A = ℕ} 0 1 = cc in omega arith

read_back : (result : CallResult (List Range)) (rs : List Range) (r : CallResult ℕ) (n : ℕ) (after before : List (List ℤ)) → Reported r after result before → r ≡ Ok n
    → result ≡ Ok rs → ranges_in (take n after) ≡ rs
read_back result rs r n after before told counted e =
    let same : ◌≡◌ {A = CallResult ℕ} (Ok n) (Ok (length rs)) = sym counted ∙ told.answer ∙ ap range_count e in
    let size : n ≡ length rs = cc in
    let list : after ≡ laid_ranges rs ++ drop (length rs) before = told.list ∙ ap (λ (x : CallResult (List Range)). ranges_after x before) e in
    let front : take n after ≡ laid_ranges rs = rw (list, size) (take_at (laid_ranges rs) (drop (length rs) before) (length rs) (length-map rs _)) in
    ap ranges_in front ∙ laid-read rs

-- a head and two arrays, and the buffer that they hold
module _ (h : Head) (ts : List (List ℤ)) (gs : List (List ℕ)) where
  abbrev buffer : Buffer
  buffer = buffer_of (state_at h ts gs)

  module _ (lent track : ℕ) (r : CallResult ℕ) (n : ℕ) (after before : List (List ℤ))
      (told : Reported r after (track_ranges_result lent track h ts gs) before) (counted : r ≡ Ok n) where
    done-track : (a b : Bool) (rs : List Range) → range_count (refuse_if (not a) NoTrack (refuse_if b ShortList (Ok rs))) ≡ Ok n
        → refuse_if (not a) NoTrack (refuse_if b ShortList (Ok rs)) ≡ Ok rs
    done-track false b rs e = absurd (refusal-no-count e)
    done-track true true rs e = absurd (refusal-no-count e)
    done-track true false rs e = refl

    answered : range_count (track_ranges_result lent track h ts gs) ≡ Ok n
    answered = sym told.answer ∙ counted

    well : well_formed_at h ts gs ≡ true
    well =
        split (well_formed_at h ts gs) (λ e. e)
        (λ e. absurd (refusal-no-count (sym (ap range_count (track-ill-formed lent track h ts gs e)) ∙ answered)))

    track-done : track_ranges_result lent track h ts gs ≡ Ok (ranges_of track buffer.frames)
    unfolding track_ranges_result track_ranges
    track-done =
        let same = on-well_formed (track_ranges lent track) h ts gs well in
        same ∙ done-track (has_track buffer track) (ltb lent (length (ranges_of track buffer.frames))) (ranges_of track buffer.frames) (sym (ap range_count same) ∙ answered)

    -- the ranges that the reader finds in the list, up to the count
    reported : ranges_in (take n after) ≡ ranges_of track buffer.frames
    reported = read_back (track_ranges_result lent track h ts gs) (ranges_of track buffer.frames) r n after before told counted track-done

    -- An instant is reported as held on a track exactly when a stored frame's interval covers it.
    pub held-exactly : (t : ℤ) → in_ranges t (ranges_in (take n after)) ≡ covered_on track t buffer.frames
    held-exactly t = ap (in_ranges t) reported ∙ ranges-cover track t buffer.frames

    -- Two neighbouring ranges never touch: each ends strictly before the next starts.
    pub never-touch : is_rising (ranges_in (take n after)) ≡ true
    never-touch = ap is_rising reported ∙ report-rises buffer (good-facts buffer (lent-good h ts gs well)) track

    -- An instant that no frame covers, be it a gap of one microsecond, parts the ranges: none holds an instant on both sides of it.
    pub gap_parts : (a t b : ℤ) → a <ℤ t → t <ℤ b → covered_on track t buffer.frames ≡ false → all_of (λ (q : Range). not (lies_in a q && lies_in b q)) (ranges_in (take n after)) ≡ true
    gap_parts a t b l k e = go (ranges_in (take n after)) (held-exactly t ∙ e)
      where
        apart : (q : Range) → lies_in t q ≡ false → not (lies_in a q && lies_in b q) ≡ true
        apart q out =
            split (lies_in a q && lies_in b q)
            (λ e. both_ways (lies-between t q (weaken (le-lt (lies-from a q (and_left _ _ e)) l)) (lt-lt k (lies-to b q (and_right (lies_in a q) _ e)))) out)
            (λ e. rw e)

        go : (qs : List Range) → in_ranges t qs ≡ false → all_of (λ (q : Range). not (lies_in a q && lies_in b q)) qs ≡ true
        go [] e = all_none _
        go (q ∷ qs) e = all_more _ q qs (apart q (or-none-left (lies_in t q) (in_ranges t qs) (first t q qs e))) (go qs (or-none-right (lies_in t q) (in_ranges t qs) (first t q qs e)))

  -- The common report: an instant is reported exactly when every track covers it, and neighbouring ranges never touch.
  module _ (lent : ℕ) (r : CallResult ℕ) (n : ℕ) (after before : List (List ℤ))
      (told : Reported r after (common_ranges_result lent h ts gs) before) (counted : r ≡ Ok n) where
    done-common : (b : Bool) (rs : List Range) → range_count (refuse_if b ShortList (Ok rs)) ≡ Ok n → refuse_if b ShortList (Ok rs) ≡ Ok rs
    done-common true rs e = absurd (refusal-no-count e)
    done-common false rs e = refl

    common-answered : range_count (common_ranges_result lent h ts gs) ≡ Ok n
    common-answered = sym told.answer ∙ counted

    common-well : well_formed_at h ts gs ≡ true
    common-well =
        split (well_formed_at h ts gs) (λ e. e)
        (λ e. absurd (refusal-no-count (sym (ap range_count (common-ill-formed lent h ts gs e)) ∙ common-answered)))

    common-done : common_ranges_result lent h ts gs ≡ Ok (common_ranges_of (length buffer.tracks) buffer.frames)
    unfolding common_ranges_result common_ranges
    common-done =
        let same = on-well_formed (common_ranges lent) h ts gs common-well in
        same ∙ done-common (ltb lent (length (common_ranges_of (length buffer.tracks) buffer.frames))) _ (sym (ap range_count same) ∙ common-answered)

    common-read : ranges_in (take n after) ≡ common_ranges_of (length buffer.tracks) buffer.frames
    common-read = read_back (common_ranges_result lent h ts gs) _ r n after before told counted common-done

    pub common-held-exactly : (t : ℤ) → in_ranges t (ranges_in (take n after)) ≡ covered_on_all (length buffer.tracks) t buffer.frames
    common-held-exactly t = ap (in_ranges t) common-read ∙ on-every (length buffer.tracks) some
      where
        some : 1 ≤ length buffer.tracks
        some = some-track buffer (lent-good h ts gs common-well)

        on-every : (m : ℕ) → 1 ≤ m → in_ranges t (common_ranges_of m buffer.frames) ≡ covered_on_all m t buffer.frames
        on-every zero l = absurd (omega arith)
        on-every (suc m) l = common-cover m t buffer.frames

    pub common-never-touch : is_rising (ranges_in (take n after)) ≡ true
    common-never-touch = ap is_rising common-read ∙ common-report-rises buffer (good-facts buffer (lent-good h ts gs common-well)) _

  -- How many frames the walk of a report takes, where that is not refused; it is there also where the report is refused 10.
  module _ (lent track : ℕ) (r : CallResult ℕ) (n : ℕ) (told : r ≡ walked_result lent track h ts gs) (counted : r ≡ Ok n) where
    walk-answered : walked_result lent track h ts gs ≡ Ok n
    walk-answered = sym told ∙ counted

    walk-well : well_formed_at h ts gs ≡ true
    walk-well =
        split (well_formed_at h ts gs) (λ e. e)
        (λ e. absurd (refusal-no-count (sym (walked-ill-formed lent track h ts gs e) ∙ walk-answered)))

    walk-sound : all_of is_sound buffer.frames ≡ true
    walk-sound = (well_formed-stores h ts gs walk-well).each

    done-walk : (a : Bool) (m : ℕ) → refuse_if (not a) NoTrack (Ok m) ≡ Ok n → n ≡ m
    done-walk false m e = absurd (refusal-no-count e)
    done-walk true m e = cc

    walk-taken : n ≡ taken_by (drop lent (ranges_of track buffer.frames)) (own_stretches track buffer.frames)
    unfolding walked_result walked
    walk-taken =
        done-walk (has_track buffer track) _ (sym (on-well_formed (walked lent track) h ts gs walk-well) ∙ walk-answered)
        ∙ presented-taken track buffer.frames walk-sound lent

    -- All the track's, where there is a place for each range.
    pub walked_whole : length (ranges_of track buffer.frames) ≤ lent → n ≡ count (λ (f : Frame). eqb f.track track) buffer.frames
    unfolding taken_by
    walked_whole k =
        walk-taken ∙ ap (λ (rs : List Range). taken_by rs (own_stretches track buffer.frames)) (drop_of_length-le (ranges_of track buffer.frames) {i = lent} k)
        ∙ own-length track buffer.frames

    -- Else those that are presented before the range too many, and its first.
    pub walked-in-part : (q : Range) (qs : List Range) → drop lent (ranges_of track buffer.frames) ≡ q ∷ qs
        → n ≡ suc (count (λ (f : Frame). eqb f.track track && lt_z f.pts q.start) buffer.frames)
    unfolding taken_by
    walked-in-part q qs e =
        walk-taken ∙ ap (λ (rs : List Range). taken_by rs (own_stretches track buffer.frames)) e
        ∙ ap suc (own-count track (λ (r : Range). lt_z r.start q.start) buffer.frames)
