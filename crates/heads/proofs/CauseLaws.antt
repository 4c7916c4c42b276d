-- The cause by which steps 4 to 6 drop a frame, test by test.
use mathlib.Core.Path.{◌≡◌}
use mathlib.Core.Bool.{true, false}
use Rattle.buffer_state.specs.Append.{Pass, before_window, past_window, lacks_random_access}
use Rattle.heads.specs.Heads.{drop_cause}

module _ (p : Pass) where
  pub cause-one : before_window p ≡ true → 1 ≡ drop_cause p
  unfolding drop_cause
  cause-one e = rw e

  pub cause-two : before_window p ≡ false → past_window p ≡ true → 2 ≡ drop_cause p
  unfolding drop_cause
  cause-two e d = rw (e, d)

  pub cause-three : before_window p ≡ false → past_window p ≡ false → lacks_random_access p ≡ true → 3 ≡ drop_cause p
  unfolding drop_cause
  cause-three e d l = rw (e, d, l)

  pub cause-none : before_window p ≡ false → past_window p ≡ false → lacks_random_access p ≡ false → 0 ≡ drop_cause p
  unfolding drop_cause
  cause-none e d l = rw (e, d, l)
