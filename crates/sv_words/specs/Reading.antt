-- The command whose words `clap` reads: three words by their places, no flag.
use Rattle.std.specs.Prelude.{◌≡◌, ℕ, true, List, Option, codes}
use Rattle.clap.specs.Words.{App, first_of, matches_of, new_app, new_rule, with_rule}

abbrev pub with_places : App
with_places = with_rule (with_rule (with_rule (new_app (codes "svval")) (new_rule (codes "word")))
    (new_rule (codes "seed"))) (new_rule (codes "count"))

abbrev pub command : App
command = record with_places {
  top = record with_places.top
      { no_binary_name = true; disable_help_flag = true; disable_version_flag = true };
}

-- of these words the command reads that first, second and third one
abbrev pub Reads : List (List ℕ) → Option (List ℕ) → Option (List ℕ) → Option (List ℕ) → Type 0
Reads words word seed count = (first_of (codes "word") (matches_of command words) ≡ word)
    × (first_of (codes "seed") (matches_of command words) ≡ seed)
    × (first_of (codes "count") (matches_of command words) ≡ count)
