-- Laws of tests: of `cond`, `&&` and `||`. `search cases` closes a return of a function from the tests that led to it.
-- Assumes nothing.
use Rattle.std.specs.Prelude.{◌≡◌, ℕ, ◌<◌, ◌≤◌, Bool, true, false, cond, not, ◌&&◌, ◌||◌, nat_lt, refl}
use Rattle.std.proofs.Common.{sym, ◌∙◌, le-ltb, lt-ltb, le-leb, eq-eqb, ne_eqb}
use Rattle.std.proofs.lemmas.Bool.{lt-leb, not-true, not-false}

-- What holds of both of two values holds of the one that a test chooses.
pub chosen : {A : Type 0} (P : Bool → A → Type 0) (b : Bool) (x y : A) → P true x → P false y → P b (cond b x y)
chosen P true x y p q = p
chosen P false x y p q = q

-- There is no choice between a value and itself.
pub same : {A : Type 0} (b : Bool) (x : A) → cond b x x ≡ x
same b x = chosen (λ c y. y ≡ x) b x x refl refl

-- What follows from either result of a test.
pub tested : {P : Type 0} (b : Bool) → (b ≡ true → P) → (b ≡ false → P) → P
tested true p q = p refl
tested false p q = q refl

pub if_true : {A : Type 0} (b : Bool) (x y z : A) → b ≡ true → x ≡ y → x ≡ cond b y z
if_true b x y z t e = rw t e

pub if_false : {A : Type 0} (b : Bool) (x y z : A) → b ≡ false → x ≡ z → x ≡ cond b y z
if_false b x y z t e = rw t e

pub and_true : (a b x : Bool) → a ≡ true → x ≡ b → x ≡ (a && b)
and_true a b x t e = rw t e

pub and_false : (a b x : Bool) → a ≡ false → x ≡ false → x ≡ (a && b)
and_false a b x t e = rw t e

pub both_true : (a b : Bool) → a ≡ true → b ≡ true → (a && b) ≡ true
both_true a b s t = rw (s, t) refl

pub left_false : (a b : Bool) → a ≡ false → (a && b) ≡ false
left_false a b t = rw t refl

pub right_false : (a b : Bool) → b ≡ false → (a && b) ≡ false
right_false true b t = t
right_false false b t = refl

-- tests of what a call answered
pub or_true : (r a b x : Bool) → r ≡ a → r ≡ true → x ≡ true → x ≡ (a || b)
or_true r a b x e t f = rw (← e, t) f

pub or_false : (r a b x : Bool) → r ≡ a → r ≡ false → x ≡ b → x ≡ (a || b)
or_false r a b x e t f = rw (← e, t) f

pub passed : (r a : Bool) → r ≡ a → not r ≡ false → a ≡ true
passed r a e t = sym e ∙ not-false r t

pub failed : (r a : Bool) → r ≡ a → not r ≡ true → a ≡ false
failed r a e t = sym e ∙ not-true r t

pub lt_answered : (m n k : ℕ) → m ≡ n → m < k → nat_lt n k ≡ true
lt_answered m n k e l = rw (← e) (lt-ltb m k l)

pub le_answered : (m n k : ℕ) → m ≡ n → k ≤ m → nat_lt n k ≡ false
le_answered m n k e l = rw (← e) (le-ltb m k l)

pub ruleset tests = (lt_answered, le_answered, le-ltb, lt-ltb, le-leb, lt-leb, eq-eqb, ne_eqb)

pub ruleset cases = (if_true, if_false, and_true, and_false, both_true, left_false, right_false, or_true, or_false, tests)
