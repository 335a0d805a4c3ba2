-- What was put of the lines that are left where a file was opened was put of all its lines.
use Rattle.std.proofs.Common.{◌≡◌, ℕ, List, length, Option, Some}
use Rattle.std.specs.Prelude.{Result, IfOk}
use Rattle.std.proofs.lemmas.Result.{IfOk-weaker}
use Rattle.wf_io.specs.Told.{File}
use Rattle.wf_io.specs.Lines.{FileLines, lines_in}
use Rattle.wf_io.specs.Readers.{Reader, Stands, left_in}
use Rattle.wf_lines.proofs.Openings.{opened, told_opened}
use Rattle.wf_query.specs.Lines.{Ended, ArePut}

module _ (name : List ℕ) (r : Reader) (is : r ≡ opened name) where
  pub put_of_all : (Answers : List ℕ → List ℕ → List ℕ → Type 0) (ending : Option Ended) (Failed : Type 0) (old new : Option (List ℕ)) (f : List ℕ → File) → (Stands (f r.name) r → ArePut Answers (left_in (f r.name) r) ending Failed old new) → ArePut Answers (lines_in (f name)) ending Failed old new
  put_of_all Answers ending Failed old new f = told_opened (λ file. ArePut Answers file ending Failed old new) f name r is

  -- and their number is that of all lines
  pub count_of_all : {E : Type 0} (files : Option (List ℕ → File)) (answer : Result ℕ E) → IfOk answer (λ n. (f : List ℕ → File) → files ≡ Some f → Stands (f r.name) r → n ≡ length (left_in (f r.name) r).lines) → IfOk answer (λ n. (f : List ℕ → File) → files ≡ Some f → n ≡ length (lines_in (f name)).lines)
  count_of_all files answer =
      IfOk-weaker answer (λ n. (f : List ℕ → File) → files ≡ Some f → Stands (f r.name) r → n ≡ length (left_in (f r.name) r).lines) (λ n. (f : List ℕ → File) → files ≡ Some f → n ≡ length (lines_in (f name)).lines)
      (λ n count f told. told_opened (λ (file : FileLines). n ≡ length file.lines) f name r is (count f told))
