-- What contracts alone see has no bytes, so it may go wherever its type may.
use denote.RattleType.{RattleType}
use denote.Param.Send.{IsSend, owning_send, sendable}
use Rattle.ghost_counts.specs.contracts.noted.Noted.{the_row, the_type}

pub send : (T : RattleType) → IsSend T → IsSend (the_row T)
send T t = owning_send (the_type T) (search sendable, tt) (λ d. tt) (λ k x w. tt)
