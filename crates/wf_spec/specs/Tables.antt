-- What a grammar keeps for its readers: names, the productions of each module, and rows of bits.
use Rattle.std.specs.Prelude.{◌≡◌, ℕ, ◌<◌, ◌≤◌, ◌==◌, List, [], map, length, get_or, Vec}
use Rattle.std.specs.List.{filter}
use Rattle.std.specs.Int.{bit_at}
use Rattle.std.specs.declared.alloc.Global.{Global}
use Rattle.wf_model.specs.declared.numbers.ProdNo.{ProdNo}
use Rattle.wf_model.specs.Lists.{numbers_from}
use Rattle.wf_model.specs.Grammar.{Grammar, Module, Production, inputs_of, outputs_of, is_given, head_of, alternative_of}
use Rattle.wf_model.specs.WellFormed.{IsWellFormed}

-- the productions of a module, in order
abbrev pub productions_of : Grammar → ℕ → List ℕ
productions_of g m = filter (λ p. head_of g p == m) (numbers_from 0 (length g.productions))

-- rows of bits that say which pairs a module is given: a row for each input, a bit for each output, and no further bits
pub record AreRowsOf (g : Grammar) (m : ℕ) (rows : List ℕ) : Type 0 where
  pub one_each : length rows ≡ inputs_of g m
  pub bits : (i o : ℕ) → i < inputs_of g m → o < outputs_of g m → (bit_at (get_or rows i 0) o == 1) ≡ is_given g.given m i o
  pub no_more : (i o : ℕ) → outputs_of g m ≤ o → bit_at (get_or rows i 0) o ≡ 0

-- the head of the production of this number
abbrev pub head_at : List Production → ℕ → ℕ
head_at productions p = (get_or productions p (record { head = 0; positions = []; edges = []; entries = []; exits = [] })).head

-- among the first n of a list of productions, those with this head
abbrev pub headed : List Production → ℕ → ℕ → List ℕ
headed productions n m = filter (λ p. head_at productions p == m) (numbers_from 0 n)

-- the numbers in lists of production numbers
abbrev pub numbers_in : List (Vec ProdNo Global) → List (List ℕ)
numbers_in = map (λ v. map (λ (p : ProdNo). p.0) v.items)

-- a list for each module, of the productions that it heads
pub record AreByHead (modules : ℕ) (productions : List Production) (n : ℕ) (lists : List (List ℕ)) : Type 0 where
  pub one_each : length lists ≡ modules
  pub each : (m : ℕ) → m < modules → get_or lists m [] ≡ headed productions n m

-- for each of the first n productions, how many before it have its head
abbrev pub places : List Production → ℕ → List ℕ
places productions n = map (λ p. length (headed productions p (head_at productions p))) (numbers_from 0 n)

-- rows for each of so many modules
abbrev pub AreRows : Grammar → List (List ℕ) → Type 0
AreRows g bits = (length bits ≡ length g.modules) × ((m : ℕ) → m < length g.modules → AreRowsOf g m (get_or bits m []))

-- a well-formed grammar with its tables: the names of the modules, the productions of each, all rows, and the places of productions among those of their heads
pub record IsKept (g : Grammar) (known lists bits : List (List ℕ)) (among : List ℕ) : Type 0 where
  pub well_formed : IsWellFormed g
  pub names : known ≡ map (λ (m : Module). m.name) g.modules
  pub by_head : AreByHead (length g.modules) g.productions (length g.productions) lists
  pub rows : AreRows g bits
  pub places : among ≡ map (alternative_of g) (numbers_from 0 (length g.productions))
