-- Four words, of which the first is that of a replay.
use Rattle.std.proofs.Common.{◌≡◌, ℕ, ◌<◌, ◌≤◌, List, [], ◌∷◌, length, get_or, refl, true, codes, bytes_eq, arith}
use Rattle.std.proofs.lemmas.Slice.Eq.{bytes_eq-Decides}
use Rattle.mix_program.specs.Starting.{spoken}

-- four words are those at their places
four : (words : List (List ℕ)) (a b c d : List ℕ) → 4 ≤ length words → length words < 5 →
    a ≡ get_or words 0 a → b ≡ get_or words 1 b → c ≡ get_or words 2 c → d ≡ get_or words 3 d →
    words ≡ a ∷ b ∷ c ∷ d ∷ []
four [] a b c d most least e f g h = absurd (omega arith)
four (x ∷ []) a b c d most least e f g h = absurd (omega arith)
four (x ∷ y ∷ []) a b c d most least e f g h = absurd (omega arith)
four (x ∷ y ∷ z ∷ []) a b c d most least e f g h = absurd (omega arith)
four (x ∷ y ∷ z ∷ w ∷ []) a b c d most least e f g h = rw (e, f, g, h) refl
four (x ∷ y ∷ z ∷ w ∷ v ∷ words) a b c d most least e f g h = absurd (omega arith)

-- words that begin with that of a replay
pub four_spoken : (words : List (List ℕ)) (a b c d : List ℕ) → 4 ≤ length words →
    length words < 5 → a ≡ get_or words 0 a → b ≡ get_or words 1 b → c ≡ get_or words 2 c →
    d ≡ get_or words 3 d → bytes_eq a (codes "replay") ≡ true → words ≡ spoken b c d
four_spoken words a b c d most least e f g h first =
    let is_first = (bytes_eq-Decides a (codes "replay")).0 first in
    rw (← is_first) (four words a b c d most least e f g h)
