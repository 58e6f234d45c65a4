use Rattle.nights_at_rest.proofs.Playing.{meets, names, only_limits, worlds_rest}
use Rattle.nights_at_rest.proofs.worlds.worlds_come_to_rest.Goals as goal

pub returns-clause-exists : goal.returns-clause-exists
returns-clause-exists c = λ s x readings reads tree stands room among.
    c.there_is_always_a_round.ensures.here s.net readings reads x tree (meets s x stands) (names s x stands) room among

pub returns-clause-taken : goal.returns-clause-taken
returns-clause-taken c = λ s x y st r stands of e due. only_limits s x y st stands of e r due

pub returns-clause-rest : goal.returns-clause-rest
returns-clause-rest c = λ reads k n s t x tree stands low rounds. worlds_rest reads k n s t x tree stands low rounds
