-- One text appended after another.
use Rattle.std.proofs.Common.{◌≡◌, ℕ, List, ◌++◌, append_assoc}

pub join_three : (a b c s t u v : List ℕ) → t ≡ s ++ a → u ≡ t ++ b → v ≡ u ++ c → v ≡ s ++ (a ++ b ++ c)
join_three a b c s t u v p q r = rw (r, q, p) (simp append_assoc)

pub join_four : (a b c d s t u v w : List ℕ) → t ≡ s ++ a → u ≡ t ++ b → v ≡ u ++ c → w ≡ v ++ d → w ≡ s
    ++ (a ++ b ++ c ++ d)
join_four a b c d s t u v w p q r o = rw (o, r, q, p) (simp append_assoc)

pub join_six : (a b c d e f s t u v w x y : List ℕ) → t ≡ s ++ a → u ≡ t ++ b → v ≡ u ++ c → w ≡ v ++ d → x
    ≡ w ++ e → y ≡ x ++ f → y ≡ s ++ (a ++ b ++ c ++ d ++ e ++ f)
join_six a b c d e f s t u v w x y p q r o m n = rw (n, m, o, r, q, p) (simp append_assoc)
