-- A part of the machine's state that a crate keeps (defined by this project), such as the images with their layers. It is given by
-- a function that puts such a part in the place of what a state has.
use Rattle.std.specs.Prelude.{◌≡◌}
use Rattle.cv_core_records.specs.declared.reply.Reply.{Reply}
use Rattle.cv_core_machine.specs.Laws.{IsConsistent}
use Rattle.cv_core_machine.specs.State.{State, opening}

-- a step of the machine, such as `claim` with a layer and a worker, leads from a part to another one and to a reply: from every
-- state that holds the first part to the same state with the other
abbrev pub LeadsIn : {P : Type 0} → (State → P → State) → (State → State × Reply) → P → P × Reply → Type 0
LeadsIn holding event before after = (state : State) → event (holding state before) ≡ (holding state after.0, after.1)

-- the machine that holds a part and nothing else
abbrev pub alone_in : {P : Type 0} → (State → P → State) → P → State
alone_in holding part = holding (opening (record { images = 0; feeds = 0 })) part

-- a part is consistent: the machine that holds it alone is
abbrev pub IsRegularIn : {P : Type 0} → (State → P → State) → P → Type 0
IsRegularIn holding part = IsConsistent (alone_in holding part)
