-- Laws of bits that hold digit by digit, for words of any width.
use Rattle.std.specs.Prelude.{◌≡◌, refl, ℕ, zero, suc, ◌-◌, ◌/◌, ◌%◌, ◌^◌, ◌<◌}
use Rattle.std.proofs.Common.{sym, ap, ap₂, ◌∙◌, pow-suc, arith}
use Rattle.std.specs.Int.Bits.{bit_and, bit_xor}
use Rattle.std.proofs.lemmas.Nat.{and_shr, xor_shr, and_mod, xor_mod}

same_digits : (m n : ℕ) → m / 2 ≡ n / 2 → m % 2 ≡ n % 2 → m ≡ n
same_digits m n h l = omega arith

choose_digit : (a b c : ℕ) → a < 2 → b < 2 → c < 2 → bit_xor (bit_and a b) (bit_and (1 - a) c) ≡ bit_xor c (bit_and a (bit_xor b c))
choose_digit zero zero zero ha hb hc = refl
choose_digit zero zero (suc zero) ha hb hc = refl
choose_digit zero zero (suc (suc c)) ha hb hc = absurd (omega arith)
choose_digit zero (suc zero) zero ha hb hc = refl
choose_digit zero (suc zero) (suc zero) ha hb hc = refl
choose_digit zero (suc zero) (suc (suc c)) ha hb hc = absurd (omega arith)
choose_digit zero (suc (suc b)) c ha hb hc = absurd (omega arith)
choose_digit (suc zero) zero zero ha hb hc = refl
choose_digit (suc zero) zero (suc zero) ha hb hc = refl
choose_digit (suc zero) zero (suc (suc c)) ha hb hc = absurd (omega arith)
choose_digit (suc zero) (suc zero) zero ha hb hc = refl
choose_digit (suc zero) (suc zero) (suc zero) ha hb hc = refl
choose_digit (suc zero) (suc zero) (suc (suc c)) ha hb hc = absurd (omega arith)
choose_digit (suc zero) (suc (suc b)) c ha hb hc = absurd (omega arith)
choose_digit (suc (suc a)) b c ha hb hc = absurd (omega arith)

-- where x has a 1 the digit of y, else that of z: with a complement, and without
pub choose : (k x y z : ℕ) → x < 2 ^ k → y < 2 ^ k → z < 2 ^ k
    → bit_xor (bit_and x y) (bit_and (2 ^ k - 1 - x) z) ≡ bit_xor z (bit_and x (bit_xor y z))
choose zero zero zero zero hx hy hz = refl
choose zero zero zero (suc z) hx hy hz = absurd (omega arith)
choose zero zero (suc y) z hx hy hz = absurd (omega arith)
choose zero (suc x) y z hx hy hz = absurd (omega arith)
choose (suc k) x y z hx hy hz =
    let other : ℕ = 2 ^ suc k - 1 - x in
    let h : other / 2 ≡ 2 ^ k - 1 - x / 2 = omega (arith, pow-suc 2 k) in
    let l : other % 2 ≡ 1 - x % 2 = omega (arith, pow-suc 2 k) in
    let bx : x / 2 < 2 ^ k = omega (arith, pow-suc 2 k) in
    let by : y / 2 < 2 ^ k = omega (arith, pow-suc 2 k) in
    let bz : z / 2 < 2 ^ k = omega (arith, pow-suc 2 k) in
    same_digits _ _
    (xor_shr (bit_and x y) (bit_and other z) 1 ∙ ap₂ bit_xor (and_shr x y 1) (and_shr other z 1 ∙ ap (λ (v : ℕ). bit_and v (z / 2)) h)
    ∙ choose k (x / 2) (y / 2) (z / 2) bx by bz
    ∙ sym (xor_shr z (bit_and x (bit_xor y z)) 1 ∙ ap (bit_xor (z / 2)) (and_shr x (bit_xor y z) 1
    ∙ ap (bit_and (x / 2)) (xor_shr y z 1))))
    (xor_mod (bit_and x y) (bit_and other z) 1 ∙ ap₂ bit_xor (and_mod x y 1) (and_mod other z 1 ∙ ap (λ (v : ℕ). bit_and v (z % 2)) l)
    ∙ choose_digit (x % 2) (y % 2) (z % 2) (omega arith) (omega arith) (omega arith)
    ∙ sym (xor_mod z (bit_and x (bit_xor y z)) 1 ∙ ap (bit_xor (z % 2)) (and_mod x (bit_xor y z) 1
    ∙ ap (bit_and (x % 2)) (xor_mod y z 1))))
