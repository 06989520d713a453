-- What contracts see of a latch as it was made.
use Rattle.std.specs.Prelude.{ℕ}
use Rattle.cqs_latch.specs.declared.client.LatchClient.{LatchClient}
use Rattle.cqs_rule_laws.specs.declared.config.CancelMode.{CancelMode}

-- how often it is to be counted down
abbrev pub count_of : {T : Type 0} → LatchClient T → ℕ
count_of x = x.count

-- how its waits leave
abbrev pub mode_of : {T : Type 0} → LatchClient T → CancelMode
mode_of x = x.mode
