use Rattle.std.proofs.Common.{Some, None}
use Rattle.spv_operands.proofs.FrameLemmas.{entered_shaped, fresh_shaped, pointer_shaped, taken_pointer, taken_shape, value_shaped}
use Rattle.spv_operands.proofs.laws.frames_stay_shaped.Goals as goal

pub returns-clause-fresh : goal.returns-clause-fresh
returns-clause-fresh c = fresh_shaped

pub returns-clause-entered : goal.returns-clause-entered
returns-clause-entered c = entered_shaped

pub returns-clause-value : goal.returns-clause-value
returns-clause-value c = λ a f id ty v shaped type shape. value_shaped a f id (Some v) shaped (taken_shape a id ty v type shape)

pub returns-clause-no_value : goal.returns-clause-no_value
returns-clause-no_value c = λ a f id shaped. value_shaped a f id None shaped (λ ty v none type. absurd (cc))

pub returns-clause-pointer : goal.returns-clause-pointer
returns-clause-pointer c = λ a f id ty p shaped type shape. pointer_shaped a f id (Some p) shaped (taken_pointer a id ty p type shape)

pub returns-clause-no_pointer : goal.returns-clause-no_pointer
returns-clause-no_pointer c = λ a f id shaped. pointer_shaped a f id None shaped (λ ty p none type. absurd (cc))

pub returns-clause-pc : goal.returns-clause-pc
returns-clause-pc c = λ a f pc shaped. record { values = shaped.values; pointers = shaped.pointers }

pub returns-clause-events : goal.returns-clause-events
returns-clause-events c = λ a f events shaped. record { values = shaped.values; pointers = shaped.pointers }
