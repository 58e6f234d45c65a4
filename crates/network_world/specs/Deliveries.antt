-- What a packet brings.
use Rattle.std.specs.Prelude.{◌≡◌, ℕ, Err, None, Ok, Option, Result, Some, option_map}
use Rattle.model.specs.Types.{Ack, Body, Feed, Input, Mail, Packet}
use Rattle.model.specs.Words.{nth}
use Rattle.model.specs.World.{World, delivery, reached_limit, view_at}
use Rattle.network_world.specs.Stations.{WorldState}
use Rattle.network_world.specs.Standing.{StandsFor}
use Rattle.network_world.specs.declared.refusals.StepRefused.{StepRefused}
use Rattle.network_world.specs.declared.refusals.StepRefused.TheVariants.{Limit, NoMemory, NoPacket}

-- the input that a packet from a is, where this is the entry that a mail names
abbrev pub input_by : ℕ → Packet → Option Body → Option Input
input_by a (Mail f k) held = option_map (λ b. Input.Mail a (record { feed = f; place = k; body = b })) held
input_by a (Ack f n) held = Some (Input.Ack a f n)

-- it is told, or there is none, or memory ran out
abbrev pub IsInputOf : ℕ → Packet → Option Body → Result Input StepRefused → Type 0
IsInputOf a p held (Ok i) = input_by a p held ≡ Some i
IsInputOf a p held (Err NoPacket) = input_by a p held ≡ None
IsInputOf a p held (Err NoMemory) = Unit {0}
IsInputOf a p held (Err _) = ⊥

-- what a packet names is held at a
abbrev pub named_at : World → ℕ → Packet → Option Body
named_at x a (Mail f k) = nth (view_at x a f) k
named_at x a (Ack f n) = None

-- this is what a holds at a place of a feed
abbrev pub IsHeld : WorldState → ℕ → Feed → ℕ → Option Body → Type 0
IsHeld s a f k held = (x : World) → StandsFor s x → held ≡ nth (view_at x a f) k

-- a packet is the input that is told, by what its sender holds
abbrev pub IsOpened : WorldState → ℕ → Packet → Result Input StepRefused → Type 0
IsOpened s a p r = (x : World) → StandsFor s x → IsInputOf a p (named_at x a p) r

-- packet k from a to b is this input, and no limit was reached
abbrev pub IsBrought : WorldState → ℕ → ℕ → ℕ → Input → Type 0
IsBrought s a b k input = (x : World) → StandsFor s x → (delivery x a b k ≡ Some input) × (reached_limit x ≡ None)

-- packet k from a to b is no input, or a limit was reached, or memory ran out
abbrev pub IsNotBrought : WorldState → ℕ → ℕ → ℕ → StepRefused → Type 0
IsNotBrought s a b k NoPacket = (x : World) → StandsFor s x → delivery x a b k ≡ None
IsNotBrought s a b k (Limit l) =
    (x : World) → StandsFor s x → (i : Input) × (delivery x a b k ≡ Some i) × (reached_limit x ≡ Some l)
IsNotBrought s a b k NoMemory = Unit {0}
IsNotBrought s a b k _ = ⊥
