-- The number of a connection, a space, and what it says.
use Rattle.std.proofs.Common.{◌≡◌, ℕ, ◌+◌, ◌<◌, ◌≤◌, ◌^◌, List, [], ◌∷◌, ◌++◌, length, get_or, take, drop, decimal, true, false, refl, sym, ap, ◌∙◌, arith, rules, lit<, lt-ltb, add-one, length-append}
use Rattle.std.specs.Prelude.{Option, Some, None, Result, Ok, position}
use Rattle.std.specs.Char.{is_ascii_digit}
use Rattle.std.specs.List.{list_all, position_or_len}
use Rattle.std.proofs.Math.Seq.{drop-cons, take-append_seam, drop-append-add}
use Rattle.std.proofs.lemmas.List.{take-append-drop}
use Rattle.std.proofs.lemmas.Bool.{and_parts, eqb-true}
use Rattle.std.proofs.lemmas.Fmt.{digits_decimal}
use Rattle.std.proofs.lemmas.List.Quantifiers.{position-Some}
use Rattle.mix_model.specs.declared.action.Action.{Action}
use Rattle.mix_script.specs.declared.bad_line.BadLine.{BadLine}
use Rattle.mix_script.specs.Lines.{connection_of, is_space, said, said_after, said_by}
use Rattle.mix_script.specs.Numbers.{greatest_connection}
use Rattle.mix_script.proofs.NumberLemmas.{own, number-read, number-written}

-- a space ends digits
digits-end : (digits after : List ℕ) → list_all is_ascii_digit digits ≡ true
    → position_or_len is_space (digits ++ (32 ∷ after)) ≡ length digits
digits-end [] after h = refl
digits-end (d ∷ digits) after h =
    let parts = and_parts (is_ascii_digit d) (list_all is_ascii_digit digits) h in
    let other : is_space d ≡ false = grind arith in
    rw (other, digits-end digits after parts.1) (search rules)

-- what a connection says is read
pub said-read : (heard : ℕ → List ℕ → Result Action BadLine) (conn : ℕ) (after : List ℕ) → conn ≤ greatest_connection
    → said heard (decimal conn ++ (32 ∷ after)) ≡ heard conn after
said-read heard conn after most =
    let fits : conn < 2 ^ 64 = omega arith in
    let end = digits-end (decimal conn) after (digits_decimal own conn fits) in
    let len = length-append (decimal conn) (32 ∷ after) in
    let within : length (decimal conn) < length (decimal conn ++ (32 ∷ after)) = omega (arith, len) in
    let place : position is_space (decimal conn ++ (32 ∷ after)) ≡ Some (length (decimal conn)) =
    rw (end, lt-ltb (length (decimal conn)) (length (decimal conn ++ (32 ∷ after))) within) refl in
    let front = take-append_seam (decimal conn) (32 ∷ after) in
    let back = drop-append-add (decimal conn) (32 ∷ after) 1 in
    let number : connection_of (decimal conn) ≡ Some conn = number-read greatest_connection conn most (lit< tt) in
    rw (place, front, number) (ap (heard conn) back)

-- what was read is what a connection says
pub record Said (heard : ℕ → List ℕ → Result Action BadLine) (rest : List ℕ) (action : Action) : Type 0 where
  pub conn : ℕ
  pub after : List ℕ
  pub is : decimal conn ++ (32 ∷ after) ≡ rest
  pub most : conn ≤ greatest_connection
  pub heard_is : heard conn after ≡ Ok action

by-number : (heard : ℕ → List ℕ → Result Action BadLine) (digits after rest : List ℕ) (action : Action) (number : Option ℕ)
    → connection_of digits ≡ number → digits ++ (32 ∷ after) ≡ rest → said_by heard number after ≡ Ok action
    → Said heard rest action
by-number heard digits after rest action None is whole h = cc h
by-number heard digits after rest action (Some conn) is whole h =
    let number = number-written greatest_connection digits conn (lit< tt) is in
    record {
      conn = conn;
      after = after;
      is = rw number.0 whole;
      most = number.1;
      heard_is = h;
    }

split-at : (rest : List ℕ) (at : ℕ) → at < length rest → is_space (get_or rest at 0) ≡ true
    → take at rest ++ (32 ∷ drop (at + 1) rest) ≡ rest
split-at rest at within space =
    let is : get_or rest at 0 ≡ 32 = eqb-true (get_or rest at 0) 32 space in
    let cons : drop at rest ≡ 32 ∷ drop (at + 1) rest = rw add-one (rw is at (drop-cons rest at 0 within)) in
    ap (λ t. take at rest ++ t) (sym cons) ∙ take-append-drop at rest

by-place : (heard : ℕ → List ℕ → Result Action BadLine) (rest : List ℕ) (action : Action) (place : Option ℕ)
    → position is_space rest ≡ place → said_after heard rest place ≡ Ok action → Said heard rest action
by-place heard rest action None is h = cc h
by-place heard rest action (Some at) is h =
    let found = position-Some is_space rest at 0 is in
    by-number heard (take at rest) (drop (at + 1) rest) rest action (connection_of (take at rest)) refl
    (split-at rest at found.0 found.1) h

pub said-back : (heard : ℕ → List ℕ → Result Action BadLine) (rest : List ℕ) (action : Action)
    → said heard rest ≡ Ok action → Said heard rest action
said-back heard rest action h = by-place heard rest action (position is_space rest) refl h
