use native.Mathlib.Omega.{arith}
use Rattle.system_tables.proofs.CeilingLaws.{few_messages}
use Rattle.system_tables.proofs.inner.writers.communication_word.Goals as goal

pub overflow_add-result : goal.overflow_add-result
overflow_add-result c = omega (arith, c.message_word.ensures, few_messages c.in-On.m)

pub returns-in-On : goal.returns-in-On
returns-in-On c = rw (c.in-On.is, c.message_word.ensures)
