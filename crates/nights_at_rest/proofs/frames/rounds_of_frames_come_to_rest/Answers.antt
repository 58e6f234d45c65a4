use Rattle.nights_at_rest.proofs.Coming.{found_rest}
use Rattle.nights_at_rest.proofs.Few.{few, round_gains}
use Rattle.nights_at_rest.proofs.frames.rounds_of_frames_come_to_rest.Goals as goal

pub returns-clause-rest : goal.returns-clause-rest
returns-clause-rest c = λ net reads x y tree inv round none. found_rest net reads x y tree inv round none

pub returns-clause-gains : goal.returns-clause-gains
returns-clause-gains c = λ net reads x y tree inv round. round_gains net reads x y round tree inv

pub returns-clause-few : goal.returns-clause-few
returns-clause-few c = λ net reads k n x z tree inv low rounds. few net reads k n x z tree inv low rounds
