use Rattle.std.proofs.Common.{◌≡◌, refl, sym, ap, ◌∙◌, false, not, List, [], ◌++◌, ◌+◌, ◌≤◌, ◌<◌, arith, length, drop, take_all, Ok, Err, w64}
use mir.ValLaws.{to_z-of_z}
use Rattle.buffer_state.specs.declared.Frame.{Frame}
use Rattle.buffer_state.specs.declared.Head.{Head}
use Rattle.buffer_state.specs.declared.Refusal.TheVariants.{Full}
use Rattle.buffer_state.specs.declared.Track.{Track}
use Rattle.buffer_state.specs.Answers.{written}
use Rattle.buffer_state.specs.Append.{Pass, needing_buffer, is_overlapped, overlap_marks, stored, step_nine, stored_as}
use Rattle.buffer_state.specs.Buffer.{track_of}
use Rattle.buffer_state.specs.Layout.{zero_frame, padded_list}
use Rattle.buffer_state.specs.Lent.{times_of, tags_of, head_of, times_in, tags_in}
use Rattle.buffer_state.specs.Limits.{places, last_number}
use Rattle.buffer_state.specs.Store.{Marked, Line, insert_sorted, walk, kept, lines_of}
use Rattle.buffer_state.specs.WellFormed.{all_of}
use Rattle.buffer_laws.proofs.AnswerLaws.{answered}
use Rattle.heads.specs.Heads.{HasTrack}
use Rattle.taking.specs.Marks.{lines_then}
use Rattle.taking.specs.Taking.{on_track, in_spans, IsFirstIn}
use Rattle.taking.proofs.GoneLaws.{marks-same, none-gone}
use Rattle.append.specs.Settled.{pass_at, IsStored, overlap_at}
use Rattle.append.proofs.SettleLaws.{store-full, store-result}
use Rattle.append.proofs.StoredLaws.{held-head, held-count, held-store, needing-track, stored-count, freed}
use Rattle.append.proofs.store_frame.Goals as goal
use Rattle.append.proofs.store_frame.Goals.{Start, After-need_track-k, After-spans_with-spans, After-first_overlapped, In_default, In-Some, After-put_in-out}

abbrev pass : Start → Pass
pass s = let a = s.args in pass_at a.p.head a.times.now a.tags.now a.p.frame

abbrev frames : Start → List Frame
frames s = (pass s).buffer.frames

abbrev storing : Start → Pass
storing s = record { buffer = needing_buffer false (pass s); frame = s.args.p.frame }

count : (s : Start) → length (frames s) ≡ s.args.p.head.nframes
count s = let a = s.args in sym (held-count a.p.head a.times.now a.tags.now s.requires.0.whole)

store : (s : Start) → let a = s.args in IsStored a.p.head.nframes a.times.now a.tags.now
store s = let a = s.args in held-store a.p.head a.times.now a.tags.now s.requires.0.whole

headed : (c : After-need_track-k) → c.need_track-k.result ≡ head_of (storing (goal.at.After-need_track-k c).Start).buffer
headed c =
    let a = c.args in
    c.need_track-k.ensures (pass (goal.at.After-need_track-k c).Start).buffer (held-head a.p.head a.times.now a.tags.now c.requires.0.whole)

track : (c : After-need_track-k) → HasTrack c.need_track-k.result c.args.p.frame.track
track c =
    let a = c.args in
    needing-track a.p.head a.times.now a.tags.now a.p.frame c.requires.0 c.need_track-k.result (headed c)

number : (c : After-need_track-k) → c.need_track-k.result.last < last_number
number c = rw (headed c) c.requires.0.number

abbrev off : After-spans_with-spans → After-need_track-k
off c = (goal.at.After-spans_with-spans c).After-need_track-k

abbrev marks : After-spans_with-spans → List Marked
marks c = let a = (off c).args in overlap_at c.spans_with-spans.result a.p.head.nframes a.times.now a.tags.now

-- they are the definition's
marked : (c : After-spans_with-spans) → marks c ≡ overlap_marks (storing (goal.at.After-need_track-k (off c)).Start)
unfolding overlap_marks
marked c =
    let k = off c in
    let g = k.args.p.frame in
    let own = c.track_of.ensures (storing (goal.at.After-need_track-k k).Start).buffer (headed k) in
    ap walk
    (marks-same on_track (in_spans c.spans_with-spans.result) (is_overlapped (track_of (storing (goal.at.After-need_track-k k).Start).buffer g.track) g)
    (λ x _. c.spans_with-spans.ensures x ∙ c.span_of-s.ensures x ∙ ap (λ (t : Track). is_overlapped t g x) own) 4 (frames (goal.at.After-need_track-k k).Start) (store (goal.at.After-need_track-k k).Start).tracks)

abbrev spanned : After-first_overlapped → After-spans_with-spans
spanned c = (goal.at.After-first_overlapped c).After-spans_with-spans

-- where none is in a stretch, all stay, and nothing is told
all_stay : (c : In_default) → (kept (overlap_marks (storing (goal.at.After-need_track-k (off (spanned (goal.at.In_default c).After-first_overlapped))).Start)) ≡ frames (goal.at.After-need_track-k (off (spanned (goal.at.In_default c).After-first_overlapped))).Start) × (lines_of (overlap_marks (storing (goal.at.After-need_track-k (off (spanned (goal.at.In_default c).After-first_overlapped))).Start)) ≡ [])
all_stay c =
    let p = spanned (goal.at.In_default c).After-first_overlapped in
    let first : IsFirstIn (in_spans p.spans_with-spans.result) (frames (goal.at.After-need_track-k (off p)).Start) (off p).args.p.head.nframes (off p).args.p.head.nframes = c.in_default.ensures in
    let whole = take_all (off p).args.p.head.nframes (frames (goal.at.After-need_track-k (off p)).Start) (omega (arith, count (goal.at.After-need_track-k (off p)).Start)) in
    let all = none-gone (in_spans p.spans_with-spans.result) 4 (frames (goal.at.After-need_track-k (off p)).Start)
    (ap (all_of (λ (g : Frame). not (in_spans p.spans_with-spans.result g))) (sym whole) ∙ first.before) in
    (ap kept (sym (marked p)) ∙ all.0, ap lines_of (sym (marked p)) ∙ all.1)

-- else a place is freed
left-few : (c : In-Some) → length (kept (marks (spanned (goal.at.In-Some c).After-first_overlapped))) < places
left-few c =
    let p = spanned (goal.at.In-Some c).After-first_overlapped in
    let a = (off p).args in
    freed p.spans_with-spans.result a.p.head.nframes c.in-Some.first a.times.now a.tags.now (store (goal.at.After-need_track-k (off p)).Start) c.in-Some.ensures.1
    c.in-Some.ensures.0

-- where they were found, and how many are left
abbrev found : After-put_in-out → In-Some
found c = (goal.at.After-put_in-out c).In-Some

left : (c : After-put_in-out) → c.put_in-out.result.left ≡ length (kept (overlap_marks (storing (goal.at.After-need_track-k (off (spanned (goal.at.In-Some (found c)).After-first_overlapped))).Start)))
left c = c.put_in-out.ensures.counts.0 ∙ ap (λ (ms : List Marked). length (kept ms)) (marked (spanned (goal.at.In-Some (found c)).After-first_overlapped))

room : (c : After-put_in-out) → c.put_in-out.result.left < places
room c = omega (arith, c.put_in-out.ensures.counts.0, left-few (found c))

pub track_of-requires : goal.track_of-requires
track_of-requires c = track c

pub first_overlapped-requires : goal.first_overlapped-requires
first_overlapped-requires c =
    let h = store (goal.at.After-need_track-k (off c)).Start in
    let k = off c in
    (h, c.spans_with-spans.ensures, rw (to_z-of_z w64 k.args.bound k.ranges.bound) k.requires.2)

pub returns-then-n-ge-PLACES : goal.returns-then-n-ge-PLACES
returns-then-n-ge-PLACES c =
    let a = (off (spanned (goal.at.returns-then-n-ge-PLACES c).After-first_overlapped)).args in
    let n : length (kept (overlap_marks (storing (goal.at.After-need_track-k (off (spanned (goal.at.returns-then-n-ge-PLACES c).After-first_overlapped))).Start))) ≡ a.p.head.nframes = ap length (all_stay (goal.at.returns-then-n-ge-PLACES c).In_default).0 ∙ count (goal.at.After-need_track-k (off (spanned (goal.at.returns-then-n-ge-PLACES c).After-first_overlapped))).Start in
    let full = store-full (pass (goal.at.After-need_track-k (off (spanned (goal.at.returns-then-n-ge-PLACES c).After-first_overlapped))).Start) (off (spanned (goal.at.returns-then-n-ge-PLACES c).After-first_overlapped)).requires.1 (omega (arith, stored-count (storing (goal.at.After-need_track-k (off (spanned (goal.at.returns-then-n-ge-PLACES c).After-first_overlapped))).Start), n, c.if-n-ge-PLACES.true)) in let told = answered a.h.now a.times.now a.tags.now a.fates.now (Err Full) full refl refl refl refl refl in record { answer = told.0; head = told.1.0; times = told.1.1.0; tags = told.1.1.1.0; lines = told.1.1.1.1 }

pub returns-in_default : goal.returns-in_default
unfolding stored
returns-in_default c =
    let a = (off (spanned (goal.at.returns-in_default c).After-first_overlapped)).args in
    let q : Pass = storing (goal.at.After-need_track-k (off (spanned (goal.at.returns-in_default c).After-first_overlapped))).Start in
    let all = all_stay (goal.at.returns-in_default c).In_default in
    let n : length (kept (overlap_marks q)) ≡ a.p.head.nframes = ap length all.0 ∙ count (goal.at.After-need_track-k (off (spanned (goal.at.returns-in_default c).After-first_overlapped))).Start in
    let room : length (stored q).after.frames ≤ places = omega (arith, stored-count q, n, c.if-n-ge-PLACES.false) in
    let res = store-result (pass (goal.at.After-need_track-k (off (spanned (goal.at.returns-in_default c).After-first_overlapped))).Start) (off (spanned (goal.at.returns-in_default c).After-first_overlapped)).requires.1 room in
    let none = sym all.1 in
    let old = sym all.0 in
    let nine = c.put_next.ensures.head ∙ ap (λ (l : List Frame). head_of (step_nine q l)) old in let told = answered a.h.now a.times.now a.tags.now a.fates.now (Ok (stored q)) res
    (ap (λ (ls : List Line). Ok (length ls)) none) nine
    (c.put_next.ensures.times ∙ ap (λ (l : List Frame). times_in (step_nine q l)) old)
    (c.put_next.ensures.tags ∙ ap (λ (l : List Frame). tags_in (step_nine q l)) old)
    (ap (λ (ls : List Line). written ls ++ drop (length ls) a.fates.now) none) in record { answer = told.0; head = told.1.0; times = told.1.1.0; tags = told.1.1.1.0; lines = told.1.1.1.1 }

pub overflow_add-k : goal.overflow_add-k
overflow_add-k c = let k = off (spanned (goal.at.overflow_add-k c).After-first_overlapped) in omega (arith, number k)

pub put_in-out-requires : goal.put_in-out-requires
put_in-out-requires c = (store (goal.at.After-need_track-k (off (spanned (goal.at.put_in-out-requires c).After-first_overlapped))).Start, c.in-Some.ensures.1, c.in-Some.ensures.0, (off (spanned (goal.at.put_in-out-requires c).After-first_overlapped)).requires.3)

pub step_nine-requires : goal.step_nine-requires
step_nine-requires c =
    let k = off (spanned (goal.at.In-Some (found (goal.at.step_nine-requires c).After-put_in-out)).After-first_overlapped) in
    (track k, k.requires.0.pts, number k, room (goal.at.step_nine-requires c).After-put_in-out)

pub returns : goal.returns
unfolding stored step_nine
returns c =
    let p = spanned (goal.at.In-Some (found (goal.at.returns c).After-put_in-out)).After-first_overlapped in
    let k = off p in
    let a = k.args in
    let q : Pass = storing (goal.at.After-need_track-k k).Start in
    let all : length (stored q).after.frames ≤ places = omega (arith, stored-count q, left (goal.at.returns c).After-put_in-out, room (goal.at.returns c).After-put_in-out) in
    let res = store-result (pass (goal.at.After-need_track-k k).Start) k.requires.1 all in
    let nine = c.step_nine.ensures q.buffer (kept (overlap_marks q)) (headed k) (left (goal.at.returns c).After-put_in-out) in
    let told = c.put_in-out.ensures.counts.1 ∙ ap (λ (ms : List Marked). length (lines_of ms)) (marked p) in
    let new = c.stored_as-f.ensures ∙ ap (λ (h : Head). stored_as (h.last + 1) h.group.number a.p.frame) (headed k) in
    let ms = marked p in let told = answered a.h.now a.times.now a.tags.now a.fates.now (Ok (stored q)) res
    (λ j. Ok (told j)) nine
    (c.put_in-out.ensures.times ∙ (λ j. times_of (padded_list places zero_frame (insert_sorted (new j) (kept (ms j))))))
    (c.put_in-out.ensures.tags ∙ (λ j. tags_of (padded_list places zero_frame (insert_sorted (new j) (kept (ms j))))))
    (c.put_in-out.ensures.lines ∙ ap (λ (ms : List Marked). lines_then ms a.fates.now) ms) in record { answer = told.0; head = told.1.0; times = told.1.1.0; tags = told.1.1.1.0; lines = told.1.1.1.1 }
