-- What is read of a script.
use Rattle.std.specs.Prelude.{◌≡◌, ◌<◌, ◌+◌, ℕ, List, ◌∷◌, ◌++◌, Option, length, map}
use Rattle.std.specs.List.{AllByRecursion}
use Rattle.ptc_statement.specs.declared.scripts.ScriptLine.{ScriptLine}
use Rattle.ptc_statement.specs.declared.scripts.Script.{Script}
use Rattle.ptc_run.specs.declared.script_lines.ScriptText.{ScriptText}
use Rattle.ptc_run.specs.Lines.{lines_of}
use Rattle.ptc_run.specs.ScriptLines.{script_line, session_lines, NumbersFitScript, numbered, sessions_of, AllowedScript, EndsStatements, EndsScript}

-- the first line is this statement
pub record StatementRead (bytes : List ℕ) (text : ScriptText) (rest : List ℕ) : Type 0 where
  pub fits : NumbersFitScript text
  pub line : lines_of bytes ≡ script_line text ∷ lines_of rest
  pub shorter : length rest < length bytes

-- the statements from the front of the bytes on
pub record StatementsRead (bytes : List ℕ) (first : ℕ) (script : List ScriptLine) (rest : List ℕ) (count : ℕ) : Type 0 where
  pub texts : List ScriptText
  pub fit : AllByRecursion NumbersFitScript texts
  pub is_script : script ≡ numbered first texts
  pub lines : lines_of bytes ≡ map script_line texts ++ lines_of rest
  pub ends : EndsStatements (lines_of rest)
  pub counted : count ≡ length texts

-- the script behind so many rows, if there is one, and how many lines there are then
pub record SessionsRead (bytes : List ℕ) (rows : ℕ) (sessions : List Script) (rest : List ℕ) (count : ℕ) : Type 0 where
  pub script : Option (List ScriptText)
  pub allowed : AllowedScript script
  pub is_sessions : sessions ≡ sessions_of (rows + 5) script
  pub lines : lines_of bytes ≡ session_lines script ++ lines_of rest
  pub ends : EndsScript script (lines_of rest)
  pub counted : count ≡ rows + length (session_lines script)
