-- What holds of any calls.
use Rattle.vi_history.specs.Device.{One}
use Rattle.vi_history.specs.Replies.{next}
use Rattle.vi_history.specs.declared.call.Call.{Call}
use Rattle.vi_state.specs.Followed.{IsFollowed}

-- what is asked of a call before another one is so after it
abbrev pub StaysFollowed : Type 0
StaysFollowed = (one : One) (c d : Call) → IsFollowed one c → IsFollowed (next one d) c
