-- What holds of options.
use Rattle.std.proofs.Common.{Bool, IfSome, List, None, Option, Some, false, option_and_then, option_map, refl, true}
use Rattle.std.proofs.Common.{◌++◌, ◌≡◌}
use Rattle.std.specs.Bool.{then_some}
use Rattle.std.specs.List.{cons_option}
use Rattle.std.specs.Option.{option_or, option_to_list}

-- what was made was made of something
pub map_some : {X Y : Type 0} (f : X → Y) (o : Option X) (y : Y) → option_map f o ≡ Some y → (x : X) × (o ≡ Some x) × (f x ≡ y)
map_some f None y h = cc
map_some f (Some x) y h = (x, refl, cc)

-- nothing is made of nothing alone
pub map_none : {X Y : Type 0} (f : X → Y) (o : Option X) → option_map f o ≡ None → o ≡ None
map_none f None h = refl
map_none f (Some x) h = cc

-- what is made of something has what follows from it
pub some_mapped : {A B : Type 0} (P : A → Type 0) (Q : B → Type 0) (o : Option A) (f : A → B) → IfSome o P
    → ((a : A) → P a → Q (f a)) → IfSome (option_map f o) Q
some_mapped P Q None f p h = tt
some_mapped P Q (Some a) f p h = h a p

-- what comes of something has what follows from it
pub some_followed : {A B : Type 0} (P : A → Type 0) (Q : B → Type 0) (o : Option A) (f : A → Option B) → IfSome o P
    → ((a : A) → P a → IfSome (f a) Q) → IfSome (option_and_then f o) Q
some_followed P Q None f p h = tt
some_followed P Q (Some a) f p h = h a p

-- options that have something are one where this is
pub some_same : {X : Type 0} (x y : X) → Some x ≡ Some y → x ≡ y
some_same x y e = cc

-- where neither of two is there, the first is not
pub or_none_left : {X : Type 0} (a b : Option X) → option_or a b ≡ None → a ≡ None
or_none_left None b h = refl
or_none_left (Some x) b h = cc

-- where neither of two is there, the second is not
pub or_none_right : {X : Type 0} (a b : Option X) → option_or a b ≡ None → b ≡ None
or_none_right None b h = h
or_none_right (Some x) b h = cc

-- what is not there was not asked for
pub then_none : {X : Type 0} (b : Bool) (x : X) → then_some b x ≡ None → b ≡ false
then_none true x h = cc
then_none false x h = refl

-- what may stand in front of a list is a list of at most one item
pub cons_is : {Y : Type 0} (o : Option Y) (ys : List Y) → cons_option o ys ≡ option_to_list o ++ ys
cons_is None ys = refl
cons_is (Some y) ys = refl

-- options that have something are one where this is
pub some_is : {X : Type 0} {a b : X} → Some a ≡ Some b → a ≡ b
some_is e = cc

-- nothing is not something
pub none_some : {X : Type 0} {b : X} → None ≡ Some b → ⊥
none_some e = cc
