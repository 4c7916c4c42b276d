-- What an append reads of a head and changes there: steps 1 to 6, and step 9.
use Rattle.std.specs.Prelude.{◌≡◌, true, false, cond, not, ℕ, ◌+◌, ◌≤◌, eqb, ℤ, Result, Ok, Err}
use Rattle.buffer_state.specs.declared.Group.{Group}
use Rattle.buffer_state.specs.declared.Head.{Head}
use Rattle.buffer_state.specs.declared.Offered.{Offered}
use Rattle.buffer_state.specs.declared.Refusal.{Refusal}
use Rattle.buffer_state.specs.declared.Refusal.TheVariants.{ResultLimits, LastNumber}
use Rattle.buffer_state.specs.Append.{Pass, pass_of, fits, regrouped_buffer, last_pass, leaves_limits, lacks_group, before_window, past_window, lacks_random_access}
use Rattle.buffer_state.specs.Buffer.{Buffer, track_of, with_track, with_need, in_last_group}
use Rattle.buffer_state.specs.Lent.{head_of}
use Rattle.buffer_state.specs.Refusals.{CallResult, refuse_if}
use Rattle.buffer_state.specs.WellFormed.{good_buffer}
use Rattle.heads.specs.declared.Passed.{Passed}

-- a head with the next number given
abbrev pub next_head : Head → Head
next_head h = record {
  tracks = h.tracks;
  ntracks = h.ntracks;
  nframes = h.nframes;
  mode = h.mode;
  group = h.group;
  last = h.last + 1;
  settings = h.settings;
}

-- a head with another count of frames and another group
abbrev pub grown_head : Head → ℕ → Group → Head
grown_head h nframes g = record {
  tracks = h.tracks;
  ntracks = h.ntracks;
  nframes = nframes;
  mode = h.mode;
  group = g;
  last = h.last;
  settings = h.settings;
}

-- the head of a good buffer
pub record IsGoodHead (h : Head) : Type 0 where
  pub held : Buffer
  pub laid : h ≡ head_of held
  pub good : good_buffer held ≡ true

-- the track number is one of the head's
abbrev pub HasTrack : Head → ℕ → Type 0
HasTrack h n = (1 ≤ n) × (n ≤ h.ntracks) × (h.ntracks ≤ 4)

-- a pass as the code holds it: without the frames; a refusal as it is
abbrev pub passed_as : Pass → Passed
passed_as p = record { head = head_of p.buffer; frame = p.frame }

abbrev pub decided : CallResult Pass → Result Passed Refusal
decided (Err why) = Err why
decided (Ok p) = Ok (passed_as p)

-- one pass, after refusal 7
unfoldable pub first_decision : Buffer → Offered → CallResult Pass
first_decision b f = refuse_if (not (fits (pass_of b f))) ResultLimits (Ok (pass_of b f))

-- the pass that step 4 goes on from, after refusals 7 and 9: from the first pass on, and from a break at p on
unfoldable pub decision : Buffer → Offered → CallResult Pass
decision b f = refuse_if (leaves_limits b f) ResultLimits (refuse_if (lacks_group b f) LastNumber (Ok (last_pass b f)))

unfoldable pub second_decision : Buffer → Offered → ℤ → CallResult Pass
second_decision b f p =
    let again = pass_of (regrouped_buffer b p) f in
    refuse_if (not (fits again)) ResultLimits (refuse_if (in_last_group b) LastNumber (Ok again))

-- the pass that step 4 goes on from is of this buffer as it is, and neither refusal 7 nor 9 takes it
pub record IsCalm (b : Buffer) (f g : Offered) : Type 0 where
  pub last : last_pass b f ≡ record { buffer = b; frame = g }
  pub inside : leaves_limits b f ≡ false
  pub group : lacks_group b f ≡ false

-- the cause by which steps 4 to 6 drop the frame, 0 where it is stored
unfoldable pub drop_cause : Pass → ℕ
drop_cause p = cond (before_window p) 1 (cond (past_window p) 2 (cond (lacks_random_access p) 3 0))

-- the buffer of a frame that is dropped: causes 1 and 2 turn need-random-access on for its track
unfoldable pub drop_buffer : Buffer → ℕ → ℕ → Buffer
drop_buffer b n cause = cond (eqb cause 3) b (with_track b n (with_need true (track_of b n)))
