-- A call on a head and two arrays by its result: what it answers and the head that it leaves, which is that of the buffer that its
-- definition gives; what is not changed stays.
use Rattle.std.specs.Prelude.{Option, Some, None, Result, Ok, Err}
use Rattle.std.specs.Option.{is_none, unwrap_or}
use Rattle.std.specs.Result.{is_ok}
use mathlib.Core.Path.{◌≡◌, refl, sym, ap, ap₂, ◌∙◌}
use mathlib.Core.Bool.{Bool, true, false, cond, not, ◌||◌}
use mathlib.Core.List.{List, map, ◌++◌}
use Prim.Native.Nat.{ℕ, ◌-◌, ◌≤◌}
use lib.IntN.{ℤ, pos}
use lib.Ieee.{Float}
use lib.Signed.{lt_z}
use lib.ListN.{length, take, drop, replicate, length-map}
use lib.Seq.{drop_at}
use Rattle.laws.proofs.BoolLaws.{clash, and_left}
use Rattle.seconds.specs.declared.OutOfRange.{OutOfRange}
use Rattle.seconds.specs.Seconds.{Bound, unbounded, at, is_convertible, is_convertible_end, micros_of, bound_of, end_place, end_answer}
use Rattle.buffer_state.specs.Remove.{before_bound}
use Rattle.buffer_state.specs.declared.Group.{Group}
use Rattle.buffer_state.specs.declared.Head.{Head}
use Rattle.buffer_state.specs.declared.Mode.{Mode}
use Rattle.buffer_state.specs.declared.Mode.TheVariants.{Segments, Sequence}
use Rattle.buffer_state.specs.declared.Refusal.{Refusal}
use Rattle.buffer_state.specs.declared.Refusal.TheVariants.{Order}
use Rattle.buffer_state.specs.declared.Setting.{Setting}
use Rattle.buffer_state.specs.declared.Settings.{Settings}
use Rattle.buffer_state.specs.declared.Track.{Track}
use Rattle.buffer_state.specs.declared.WindowEnd.TheVariants.{Unbounded, At}
use Rattle.buffer_state.specs.Answers.{set_answer, head_set}
use Rattle.buffer_state.specs.Buffer.{Buffer, with_group, with_settings, zero_track, restarted_track, with_need, is_sequence, start_at_end, next_group}
use Rattle.buffer_state.specs.Layout.{padded_list, buffer_of, laid_out, well_formed}
use Rattle.buffer_state.specs.Lent.{state_at, head_of, well_formed_at}
use Rattle.buffer_state.specs.Refusals.{CallResult}
use Rattle.buffer_laws.proofs.LayoutLaws.{laid_out_lem}
use Rattle.buffer_laws.proofs.LentLaws.{lent-whole, lent_back}
use Rattle.buffer_state.specs.Settings.{aborted_buffer, mode_set, given, offset_set, window_end, window_start_set, window_end_set}
use Rattle.settings.specs.Windows.{setting_answer, open_window, group_from}

-- ---- a result known: the answer, and the head after the call

module _ (x : CallResult Buffer) (h : Head) where
  abbrev pub IsSet : Result (Unit {0}) Refusal → Head → Type 0
  IsSet r new = (r ≡ set_answer x) × (new ≡ head_set x h)

  pub not-set : {why : Refusal} {r : Result (Unit {0}) Refusal} → x ≡ Err why → r ≡ Err why → IsSet r h
  not-set e d = (d ∙ ap set_answer (sym e), ap (λ (y : CallResult Buffer). head_set y h) (sym e))

  pub is-set : (b : Buffer) {new : Head} → x ≡ Ok b → new ≡ head_of b → IsSet (Ok tt) new
  is-set b e d = (ap set_answer (sym e), d ∙ ap (λ (y : CallResult Buffer). head_set y h) (sym e))

-- ---- what a conversion's answer says

converted : {A : Type 0} (t : Bool) (x y : A) {why : OutOfRange} → cond t (Ok x) (Err why) ≡ Ok y → (t ≡ true) × (y ≡ x)
converted {A} true x y e = (refl, sym (ap value e))
  where
    value : Result A OutOfRange → A
    value (Ok z) = z
    value (Err why) = x
converted false x y e = clash (sym (ap is_ok e))

not-converted : {A : Type 0} (t : Bool) (x : A) {r why : OutOfRange} → cond t (Ok x) (Err r) ≡ Err why → t ≡ false
not-converted true x e = clash (ap is_ok e)
not-converted false x e = refl

pub setting-given : (x : Float) {s : Setting} → setting_answer x ≡ Ok s → (is_convertible x ≡ true) × (s ≡ given x)
setting-given x {s} e = converted (is_convertible x) (given x) s e

pub setting-refused : (x : Float) {why : OutOfRange} → setting_answer x ≡ Err why → is_convertible x ≡ false
setting-refused x e = not-converted (is_convertible x) (given x) e

pub end-refused : (x : Float) {why : OutOfRange} → end_answer x ≡ Err why → is_convertible_end x ≡ false
end-refused x e = not-converted (is_convertible_end x) (end_place (bound_of x)) e

no-place : (q : Bound) → None ≡ end_place q → q ≡ unbounded
no-place unbounded e = refl
no-place (at z) e = clash (ap is_none e)

a-place : (q : Bound) (z : ℤ) → Some z ≡ end_place q → q ≡ at z
a-place unbounded z e = clash (sym (ap is_none e))
a-place (at y) z e = ap at (sym (ap (λ (p : Option ℤ). unwrap_or p y) e))

pub end-nowhere : (x : Float) {p : Option ℤ} → end_answer x ≡ Ok p → p ≡ None → (is_convertible_end x ≡ true) × (bound_of x ≡ unbounded)
end-nowhere x {p} e d =
    let c = converted (is_convertible_end x) (end_place (bound_of x)) p e in
    (c.0, no-place (bound_of x) (sym d ∙ c.1))

pub end-at : (x : Float) {p : Option ℤ} (z : ℤ) → end_answer x ≡ Ok p → p ≡ Some z → (is_convertible_end x ≡ true) × (bound_of x ≡ at z)
end-at x {p} z e d =
    let c = converted (is_convertible_end x) (end_place (bound_of x)) p e in
    (c.0, a-place (bound_of x) z (sym d ∙ c.1))

-- ---- the calls on a well-formed state

-- whether a group is numbered before or after it is made to start at its end
next-after : (q : Bool) (g : Group) → cond q (start_at_end (next_group g)) (next_group g) ≡ next_group (cond q (start_at_end g) g)
next-after true g = refl
next-after false g = refl

module _ (h : Head) (ts : List (List ℤ)) (gs : List (List ℕ)) (w : well_formed_at h ts gs ≡ true) where
  -- the buffer that is held
  abbrev b : Buffer
  b = buffer_of (state_at h ts gs)

  back : h ≡ head_of b
  back = (lent_back h ts gs w).head

  -- tracks and counts stay
  pub kept-head : (m : Mode) (g : Group) (t : Settings)
      → ◌≡◌ {A = Head} (record { tracks = h.tracks; ntracks = h.ntracks; nframes = h.nframes; mode = m; group = g; last = h.last; settings = t })
      (head_of (record { tracks = b.tracks; frames = b.frames; mode = m; group = g; last = h.last; settings = t }))
  kept-head m g t =
      λ i. record {
        tracks = (back i).tracks;
        ntracks = (back i).ntracks;
        nframes = (back i).nframes;
        mode = m;
        group = g;
        last = h.last;
        settings = t;
      }

  -- the tracks in use are changed, each alike
  pub mapped-tracks : (f : Track → Track) → map f (take h.ntracks h.tracks) ++ drop h.ntracks h.tracks ≡ padded_list 4 zero_track (map f b.tracks)
  mapped-tracks f =
      let count : length (map f (take h.ntracks h.tracks)) ≡ length (take h.ntracks h.tracks) = length-map (take h.ntracks h.tracks) f in
      let past : drop h.ntracks h.tracks ≡ replicate (4 - length (take h.ntracks h.tracks)) zero_track =
      ap (λ (k : Head). drop h.ntracks k.tracks) back
      ∙ drop_at (take h.ntracks h.tracks) _ h.ntracks (ap (λ (k : Head). k.ntracks) (sym back)) in
      rw (count, past)

  pub mapped-count : (f : Track → Track) → h.ntracks ≡ length (map f b.tracks)
  mapped-count f = sym (length-map b.tracks f ∙ ap (λ (k : Head). k.ntracks) (sym back))

  pub few-tracks-in : h.ntracks ≤ 4
  unfolding well_formed
  few-tracks-in = (laid_out_lem (state_at h ts gs) (and_left (laid_out (state_at h ts gs)) _ (lent-whole h ts gs w))).ntracks

  -- Abort: the tracks restarted, the group and the window as the definition has them.
  pub aborted-head : (us : List Track) (g : Group) (t : Settings) → us ≡ map (λ (x : Track). cond true (restarted_track x) (with_need true x)) (take h.ntracks h.tracks) ++ drop h.ntracks h.tracks
      → g ≡ cond (is_sequence h.mode) (start_at_end (next_group h.group)) (next_group h.group) → t ≡ open_window h.settings.offset
      → ◌≡◌ {A = Head} (record { tracks = us; ntracks = h.ntracks; nframes = h.nframes; mode = h.mode; group = g; last = h.last; settings = t }) (head_of (aborted_buffer b))
  unfolding aborted_buffer
  aborted-head us g t p q r =
      let d = p ∙ mapped-tracks restarted_track in
      let n = mapped-count restarted_track in
      let next = q ∙ next-after (is_sequence h.mode) h.group in
      λ i. record {
        tracks = d i;
        ntracks = n i;
        nframes = (back i).nframes;
        mode = h.mode;
        group = next i;
        last = h.last;
        settings = r i;
      }

  -- Each setter that a conversion allows.
  abbrev resettled : Group → Settings → Head
  resettled g t = record { tracks = h.tracks; ntracks = h.ntracks; nframes = h.nframes; mode = h.mode; group = g; last = h.last; settings = t }

  pub offset_taken : (x : Float) {r : CallResult Buffer} → r ≡ offset_set x b → {s : Setting} → (is_convertible x ≡ true) × (s ≡ given x) → {g : Group} → g ≡ group_from h.mode h.group s.micros
      → IsSet r h (Ok tt) (resettled g (record { offset = s; start = h.settings.start; end = h.settings.end; limit = h.settings.limit }))
  unfolding offset_set
  offset_taken x {r} e {s} c {g} d = is-set r h _ (e ∙ rw c.0) (ap₂ resettled (rw c.1 at d) (ap t c.1) ∙ laid (is_sequence h.mode))
    where
      t : Setting → Settings
      t o = record { offset = o; start = h.settings.start; end = h.settings.end; limit = h.settings.limit }

      from : Group
      from = record { begun = true; start = micros_of x; end = h.group.end; number = h.group.number }

      laid : (q : Bool) → resettled (cond q from h.group) (t (given x)) ≡ head_of (cond q (with_group (with_settings b (t (given x))) from) (with_settings b (t (given x))))
      laid true = kept-head h.mode from (t (given x))
      laid false = kept-head h.mode h.group (t (given x))

  pub start_taken : (x : Float) {r : CallResult Buffer} → r ≡ window_start_set x b → {s : Setting} → (is_convertible x ≡ true) × (s ≡ given x)
      → lt_z s.micros (pos 0) ≡ false → before_bound s.micros (window_end h.settings) ≡ true
      → IsSet r h (Ok tt) (resettled h.group (record { offset = h.settings.offset; start = s; end = h.settings.end; limit = h.settings.limit }))
  unfolding window_start_set
  start_taken x {r} e {s} c low high =
      is-set r h _ (e ∙ rw (c.0, rw c.1 at low, rw c.1 at high))
      (ap (λ (o : Setting). resettled h.group (record { offset = h.settings.offset; start = o; end = h.settings.end; limit = h.settings.limit })) c.1 ∙ kept-head h.mode h.group _)

  pub start_under : (x : Float) {r : CallResult Buffer} → r ≡ window_start_set x b → {s : Setting} → (is_convertible x ≡ true) × (s ≡ given x)
      → (lt_z s.micros (pos 0) || not (before_bound s.micros (window_end h.settings))) ≡ true → IsSet r h (Err Order) h
  unfolding window_start_set
  start_under x {r} e c out = not-set r h (e ∙ rw (c.0, rw c.1 at out)) refl

  pub end_unset : (x : Float) {r : CallResult Buffer} → r ≡ window_end_set x b → (is_convertible_end x ≡ true) × (bound_of x ≡ unbounded)
      → IsSet r h (Ok tt) (resettled h.group (record { offset = h.settings.offset; start = h.settings.start; end = Unbounded; limit = pos 0 }))
  unfolding window_end_set
  end_unset x {r} e c = is-set r h _ (e ∙ rw (c.0, c.1)) (kept-head h.mode h.group _)

  pub end_taken : (x : Float) (z : ℤ) {r : CallResult Buffer} → r ≡ window_end_set x b → (is_convertible_end x ≡ true) × (bound_of x ≡ at z) → lt_z h.settings.start.micros z ≡ true
      → IsSet r h (Ok tt) (resettled h.group (record { offset = h.settings.offset; start = h.settings.start; end = At x; limit = z }))
  unfolding window_end_set
  end_taken x z {r} e c above = is-set r h _ (e ∙ rw (c.0, c.1, above)) (kept-head h.mode h.group _)

  pub end_under : (x : Float) (z : ℤ) {r : CallResult Buffer} → r ≡ window_end_set x b → (is_convertible_end x ≡ true) × (bound_of x ≡ at z) → lt_z h.settings.start.micros z ≡ false
      → IsSet r h (Err Order) h
  unfolding window_end_set
  end_under x z {r} e c under = not-set r h (e ∙ rw (c.0, c.1, under)) refl

  -- Setting the mode.
  pub mode_set_lem : (m : Mode) (g : Group) → g ≡ cond (is_sequence m) (start_at_end h.group) h.group
      → ◌≡◌ {A = Head} (record { tracks = h.tracks; ntracks = h.ntracks; nframes = h.nframes; mode = m; group = g; last = h.last; settings = h.settings }) (head_of (mode_set m b))
  unfolding mode_set
  mode_set_lem Segments g e = rw e (kept-head Segments h.group h.settings)
  mode_set_lem Sequence g e = rw e (kept-head Sequence (start_at_end h.group) h.settings)
