-- Refusals in their order.
use Rattle.std.specs.Prelude.{Bool, true, false}

-- the rest where the test holds, else the refusal
unfoldable pub unless : {A : Type 0} → Bool → A → A → A
unless true refusal rest = rest
unless false refusal rest = refusal
