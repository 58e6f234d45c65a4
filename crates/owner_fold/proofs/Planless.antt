-- What is neither plan nor added stream leaves the documents and the members as they are.
use Rattle.std.proofs.Common.{[], ℕ, ◌≡◌, List, Option, false, refl}
use Rattle.model.specs.Types.{Added, Body, Clock, Declined, Ended, Failed, Fulfilled, Late, Launched, Lost, NewPlan}
use Rattle.model.specs.Types.{Obeyed, Order, Released, Started, StreamEnded, UntilPassed}
use Rattle.model.specs.Catalogue.{docs_in, members_with}
use Rattle.owner_fold.specs.Plans.{is_planning_body}

-- it brings no document, and names nobody
pub no_docs : (b : Body) → is_planning_body b ≡ false → docs_in b ≡ []
no_docs (NewPlan run cut carried docs) h = cc
no_docs (Added a k doc) h = cc
no_docs (Clock t) h = refl
no_docs (Released s seen) h = refl
no_docs (StreamEnded s seen) h = refl
no_docs (UntilPassed p i mark) h = refl
no_docs (Launched j n seen) h = refl
no_docs (Started j n) h = refl
no_docs (Failed j n) h = refl
no_docs (Ended j n rc good) h = refl
no_docs (Lost j n) h = refl
no_docs (Fulfilled p i) h = refl
no_docs (Obeyed a k c) h = refl
no_docs (Declined a k why) h = refl
no_docs (Order c) h = refl
no_docs (Late p i) h = refl

pub no_names : (so_far : Option (List ℕ)) (b : Body) → is_planning_body b ≡ false → members_with so_far b ≡ so_far
no_names so_far (NewPlan run cut carried docs) h = cc
no_names so_far (Added a k doc) h = cc
no_names so_far (Clock t) h = refl
no_names so_far (Released s seen) h = refl
no_names so_far (StreamEnded s seen) h = refl
no_names so_far (UntilPassed p i mark) h = refl
no_names so_far (Launched j n seen) h = refl
no_names so_far (Started j n) h = refl
no_names so_far (Failed j n) h = refl
no_names so_far (Ended j n rc good) h = refl
no_names so_far (Lost j n) h = refl
no_names so_far (Fulfilled p i) h = refl
no_names so_far (Obeyed a k c) h = refl
no_names so_far (Declined a k why) h = refl
no_names so_far (Order c) h = refl
no_names so_far (Late p i) h = refl
