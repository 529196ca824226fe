-- The delegation that a record holds. Assumes nothing.
use Rattle.rules.specs.Register.{Delegation, granted}
use Rattle.change.specs.declared.record.Record.{Record}

abbrev pub delegation_of : Record → Delegation
delegation_of r = granted r.giver r.receiver r.weight r.need r.bar r.kind
