-- A state: a buffer laid out in places. Lent.antt says how a head and two arrays hold one.
use Rattle.std.specs.Prelude.{List, ℕ}
use Rattle.buffer_state.specs.declared.Frame.{Frame}
use Rattle.buffer_state.specs.declared.Group.{Group}
use Rattle.buffer_state.specs.declared.Mode.{Mode}
use Rattle.buffer_state.specs.declared.Settings.{Settings}
use Rattle.buffer_state.specs.declared.Track.{Track}

pub record State : Type 0 where
  pub frames : List Frame
  pub nframes : ℕ
  pub tracks : List Track
  pub ntracks : ℕ
  pub mode : Mode
  pub group : Group
  pub last : ℕ
  pub settings : Settings
