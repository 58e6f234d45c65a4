-- The order of the circle: it is one, whatever was looked for last.
use Rattle.std.proofs.Common.{◌≡◌, ℕ, Bool, arith, cond, false, refl, true}
use Rattle.std.proofs.lemmas.Bool.Decides.{nat_tests}
use Rattle.std.specs.Prelude.{◌==◌, ◌&&◌, ◌||◌, Option, nat_lt, not}
use Rattle.model.specs.Types.{Job, Obj, Stream}
use Rattle.file_watch.specs.Circle.{DepPlace, comes_before, comes_sooner, is_behind, object_before}

-- by two numbers, the first before the second
numbers_through : (a b c i k m : ℕ)
    → (nat_lt a b || ((a == b) && nat_lt i k)) ≡ true → (nat_lt b c || ((b == c) && nat_lt k m)) ≡ true
    → (nat_lt a c || ((a == c) && nat_lt i m)) ≡ true
numbers_through a b c i k m h g = grind (arith, nat_tests)

numbers_back : (a b c i k m : ℕ)
    → (nat_lt a b || ((a == b) && nat_lt i k)) ≡ false → (nat_lt b c || ((b == c) && nat_lt k m)) ≡ false
    → (nat_lt a c || ((a == c) && nat_lt i m)) ≡ false
numbers_back a b c i k m h g = grind (arith, nat_tests)

numbers_apart : (a i : ℕ) → (nat_lt a a || ((a == a) && nat_lt i i)) ≡ false
numbers_apart a i = grind (arith, nat_tests)

objects_through : (o p q : Obj) (i k m : ℕ) → object_before o p (nat_lt i k) ≡ true
    → object_before p q (nat_lt k m) ≡ true → object_before o q (nat_lt i m) ≡ true
objects_through (Stream s) (Stream t) (Stream u) i k m h g = numbers_through s t u i k m h g
objects_through (Stream s) (Stream t) (Job j) i k m h g = refl
objects_through (Stream s) (Job j) (Stream t) i k m h g = cc
objects_through (Stream s) (Job j) (Job l) i k m h g = refl
objects_through (Job j) (Stream s) q i k m h g = cc
objects_through (Job j) (Job l) (Stream s) i k m h g = cc
objects_through (Job j) (Job l) (Job n) i k m h g = numbers_through j l n i k m h g

objects_back : (o p q : Obj) (i k m : ℕ) → object_before o p (nat_lt i k) ≡ false
    → object_before p q (nat_lt k m) ≡ false → object_before o q (nat_lt i m) ≡ false
objects_back (Stream s) (Stream t) (Stream u) i k m h g = numbers_back s t u i k m h g
objects_back (Stream s) (Stream t) (Job j) i k m h g = cc
objects_back (Stream s) (Job j) q i k m h g = cc
objects_back (Job j) (Stream s) (Stream t) i k m h g = refl
objects_back (Job j) (Stream s) (Job l) i k m h g = cc
objects_back (Job j) (Job l) (Stream s) i k m h g = refl
objects_back (Job j) (Job l) (Job n) i k m h g = numbers_back j l n i k m h g

objects_apart : (o : Obj) (i : ℕ) → object_before o o (nat_lt i i) ≡ false
objects_apart (Stream s) i = numbers_apart s i
objects_apart (Job j) i = numbers_apart j i

-- the sooner of two, by whether each is behind the last, and whether the first comes before the second
abbrev pub sooner_by : Bool → Bool → Bool → Bool
sooner_by a b x = cond a (not b || x) (not b && x)

flags_through : (a b c x y z : Bool) → (x ≡ true → y ≡ true → z ≡ true) → sooner_by a b x ≡ true
    → sooner_by b c y ≡ true → sooner_by a c z ≡ true
flags_through true true true x y z f h g = f h g
flags_through true true false x y z f h g = refl
flags_through true false true x y z f h g = cc
flags_through true false false x y z f h g = refl
flags_through false true c x y z f h g = cc
flags_through false false true x y z f h g = cc
flags_through false false false x y z f h g = f h g

flags_back : (a b c x y z : Bool) → (x ≡ false → y ≡ false → z ≡ false) → sooner_by a b x ≡ false
    → sooner_by b c y ≡ false → sooner_by a c z ≡ false
flags_back true true true x y z f h g = f h g
flags_back true true false x y z f h g = cc
flags_back true false c x y z f h g = cc
flags_back false true true x y z f h g = refl
flags_back false true false x y z f h g = cc
flags_back false false true x y z f h g = refl
flags_back false false false x y z f h g = f h g

flags_apart : (a x : Bool) → x ≡ false → sooner_by a a x ≡ false
flags_apart true x h = h
flags_apart false x h = h

pub sooner_through : (last : Option DepPlace) (p q r : DepPlace) → comes_sooner last p q ≡ true → comes_sooner last q r ≡ true
    → comes_sooner last p r ≡ true
sooner_through last p q r h g =
    flags_through (is_behind last p) (is_behind last q) (is_behind last r) (comes_before p q) (comes_before q r)
    (comes_before p r) (objects_through p.0 q.0 r.0 p.1 q.1 r.1) h g

pub sooner_back : (last : Option DepPlace) (p q r : DepPlace) → comes_sooner last p q ≡ false → comes_sooner last q r ≡ false
    → comes_sooner last p r ≡ false
sooner_back last p q r h g =
    flags_back (is_behind last p) (is_behind last q) (is_behind last r) (comes_before p q) (comes_before q r)
    (comes_before p r) (objects_back p.0 q.0 r.0 p.1 q.1 r.1) h g

pub sooner_apart : (last : Option DepPlace) (p : DepPlace) → comes_sooner last p p ≡ false
sooner_apart last p = flags_apart (is_behind last p) (comes_before p p) (objects_apart p.0 p.1)

-- of two, not each comes before the other
pub sooner_once : (last : Option DepPlace) (p q : DepPlace) → comes_sooner last p q ≡ true → comes_sooner last q p ≡ false
sooner_once last p q h = go (comes_sooner last q p) refl
  where
    go : (b : Bool) → comes_sooner last q p ≡ b → b ≡ false
    go false e = refl
    go true e =
        let both : comes_sooner last p p ≡ true = sooner_through last p q p h e in
        let none : comes_sooner last p p ≡ false = sooner_apart last p in
        cc
