-- Values in a line: single spaces part them, and a line feed ends the line.
use Rattle.std.specs.Prelude.{ℕ, List, [], ◌∷◌, ◌++◌, codes, decimal}

-- a space, and a number
unfoldable pub value : ℕ → List ℕ
value n = codes " " ++ decimal n

-- the last values of a line, and its line feed
unfoldable pub last_values : List ℕ → List ℕ
last_values [] = 10 ∷ []
last_values (n ∷ ns) = value n ++ last_values ns
