-- The spelling of a statement's line in a script, and the statement.
use Rattle.std.specs.Prelude.{◌≡◌, ◌+◌, ℕ, ℤ, List, [], ◌∷◌, ◌++◌, Option, None, Some, FitsSigned, codes, map}
use Rattle.std.specs.List.{AllByRecursion}
use Rattle.std.specs.Fmt.{signed_decimal}
use Rattle.std.specs.Int.{w64}
use Rattle.row_types.specs.declared.values.Value.TheVariants.{Int}
use Rattle.ptc_statement.specs.declared.expressions.Op.TheVariants.{Eq}
use Rattle.ptc_statement.specs.declared.expressions.Expr.TheVariants.{Lit, Cell}
use Rattle.ptc_statement.specs.declared.conditions.Cond.{Cond}
use Rattle.ptc_statement.specs.declared.conditions.Cond.TheVariants.{Compare}
use Rattle.ptc_statement.specs.declared.statements.Statement.{Statement}
use Rattle.ptc_statement.specs.declared.statements.Statement.TheVariants.{Insert as InsertRow, Update as UpdateRows, Delete as DeleteRows}
use Rattle.ptc_statement.specs.declared.scripts.ScriptStep.TheVariants.{Run}
use Rattle.ptc_statement.specs.declared.scripts.ScriptLine.{ScriptLine}
use Rattle.ptc_statement.specs.declared.scripts.Script.{Script}
use Rattle.ptc_run.specs.declared.script_lines.ScriptText.{ScriptText}
use Rattle.ptc_run.specs.declared.script_lines.ScriptText.TheVariants.{Insert, Update, Delete}

unfoldable pub script_line : ScriptText → List ℕ
script_line (Insert key value) = codes "INSERT INTO t VALUES (" ++ signed_decimal key ++ codes ", " ++ signed_decimal value ++ codes ")\n"
script_line (Update key value) = codes "UPDATE t SET v = " ++ signed_decimal value ++ codes " WHERE id = " ++ signed_decimal key ++ codes "\n"
script_line (Delete key) = codes "DELETE FROM t WHERE id = " ++ signed_decimal key ++ codes "\n"

-- a number and a line feed
abbrev pub number_text : ℤ → List ℕ
number_text n = signed_decimal n ++ 10 ∷ []

-- what stands behind UPDATE's first words
abbrev pub update_text : ℤ → ℤ → List ℕ
update_text key value = signed_decimal value ++ 32 ∷ (codes "WHERE id = " ++ number_text key)

-- its numbers have 64 bits
abbrev pub NumbersFitScript : ScriptText → Type 0
NumbersFitScript (Insert key value) = FitsSigned w64 key × FitsSigned w64 value
NumbersFitScript (Update key value) = FitsSigned w64 key × FitsSigned w64 value
NumbersFitScript (Delete key) = FitsSigned w64 key

-- WHERE id = key
abbrev pub has_key : ℤ → Option Cond
has_key key = Some (Compare Eq (Cell 0) (Lit (Int key)))

-- the statement on the table t (id BIGINT KEY, v BIGINT), which is table 0
abbrev pub statement_of : ScriptText → Statement
statement_of (Insert key value) = InsertRow 0 (Int key ∷ Int value ∷ [])
statement_of (Update key value) = UpdateRows 0 (record { column = 1; expr = Lit (Int value) } ∷ []) (has_key key)
statement_of (Delete key) = DeleteRows 0 (has_key key)

-- the statements as lines of a script, the first of which has this number in the file
abbrev pub numbered : ℕ → List ScriptText → List ScriptLine
numbered number [] = []
numbered number (text ∷ texts) = record { line = number; step = Run (statement_of text) } ∷ numbered (number + 1) texts

-- the scripts of a file that may have one
abbrev pub sessions_of : ℕ → Option (List ScriptText) → List Script
sessions_of number None = []
sessions_of number (Some texts) = record { lines = numbered number texts } ∷ []

-- the numbers of each statement have 64 bits
abbrev pub AllowedScript : Option (List ScriptText) → Type 0
AllowedScript None = Unit {0}
AllowedScript (Some texts) = AllByRecursion NumbersFitScript texts

unfoldable pub session_line : List ℕ
session_line = codes "SESSION s1\n"

-- the lines of a file's script, if it has one
abbrev pub session_lines : Option (List ScriptText) → List (List ℕ)
session_lines None = []
session_lines (Some texts) = session_line ∷ map script_line texts

-- the first of these lines is no statement
abbrev pub EndsStatements : List (List ℕ) → Type 0
EndsStatements lines = (text : ScriptText) (more : List (List ℕ)) → NumbersFitScript text → lines ≡ script_line text ∷ more → ⊥

-- the first of these lines does not belong to the script
abbrev pub EndsScript : Option (List ScriptText) → List (List ℕ) → Type 0
EndsScript None lines = (more : List (List ℕ)) → lines ≡ session_line ∷ more → ⊥
EndsScript (Some texts) lines = EndsStatements lines
