-- Flags of workstations.
use Rattle.std.proofs.Common.{[], ◌+◌, ◌<◌, ◌≡◌, ◌≢◌, ◌∙◌, ◌∷◌, ℕ, Bool, List, ap, arith, false, get_or, inl, inr}
use Rattle.std.proofs.Common.{length, refl, set, subst, sym, true}
use Rattle.std.proofs.lemmas.Bool.{cases_lt}
use Rattle.std.proofs.lemmas.Bool.Decides.{eqb_tells}
use Rattle.std.proofs.lemmas.List.{get_or-replicate, get_or-set_other, get_or-set_same, length-set}
use Rattle.std.specs.Prelude.{◌==◌, ◌||◌, replicate}
use Rattle.lemmas.proofs.Numbers.{eq_itself}
use Rattle.node_inputs.specs.Inputs.{is_lost}
use Rattle.node_inputs.specs.Stepping.{TellLost}

-- one flag more is as it should be
pub flag_set : (flags : List Bool) (x : ℕ) (v : Bool) (f : ℕ → Bool) → length flags ≡ 256 → x < 256 → v ≡ f x
    → ((y : ℕ) → y < x → get_or flags y false ≡ f y)
    → (length (set flags x v) ≡ 256) × ((y : ℕ) → y < x + 1 → get_or (set flags x v) y false ≡ f y)
flag_set flags x v f long inside same before = (
  length-set flags x v ∙ long,
  λ y h. elim (cases_lt y x) [
    | inl lt ↦ get_or-set_other flags x y v false (λ e. omega (arith, lt, e)) ∙ before y lt
    | inr ge ↦
        let e : y ≡ x = omega (arith, h, ge) in
        subst (λ z. get_or (set flags x v) z false ≡ f z) (sym e)
        (get_or-set_same flags x v false (omega (arith, long, inside)) ∙ same)
  ],
)

or_true : (b : Bool) → (true || b) ≡ true
or_true b = refl

-- one more is lost
pub lost_more : (flags : List Bool) (all : List ℕ) (x : ℕ) → length flags ≡ 256 → x < 256 → TellLost flags all
    → TellLost (set flags x true) (x ∷ all)
lost_more flags all x long inside told y below = elim (cases_lt y x) [
  | inl lt ↦ other y below (λ e. omega (arith, lt, e))
  | inr ge ↦ elim (cases_lt x y) [
    | inl gt ↦ other y below (λ e. omega (arith, gt, e))
    | inr le ↦
        let e : y ≡ x = omega (arith, ge, le) in
        subst (λ z. get_or (set flags x true) z false ≡ is_lost (x ∷ all) z) (sym e)
        (get_or-set_same flags x true false (omega (arith, long, inside)) ∙ sym (ap (λ b. b || is_lost all x) (eq_itself x)))
  ]
]
  where
    other : (y : ℕ) → y < 256 → y ≢ x → get_or (set flags x true) y false ≡ is_lost (x ∷ all) y
    other y below apart =
        get_or-set_other flags x y true false apart ∙ told y below ∙ sym (ap (λ b. b || is_lost all y) (different x y (λ e. apart (sym e))))
      where
        different : (a b : ℕ) → a ≢ b → (a == b) ≡ false
        different a b h = elim (eqb_tells a b) [ inl e ↦ absurd (h e.1) | inr e ↦ e.0 ]

pub nothing_lost : (n : ℕ) → n ≡ 256 → TellLost (replicate n false) []
nothing_lost n e y below = get_or-replicate n y false false (omega (arith, e, below))
