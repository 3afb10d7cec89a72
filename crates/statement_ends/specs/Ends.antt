-- What a statement says at its end.
use Rattle.std.specs.Prelude.{List, Option}
use Rattle.row_types.specs.declared.table_schema.Schema.{Schema}
use Rattle.ptc_statement.specs.declared.assignments.Assignment.{Assignment}
use Rattle.ptc_statement.specs.declared.conditions.Cond.{Cond}
use Rattle.ptc_statement.specs.declared.statements.Statement.{Statement}
use Rattle.statement_grammar.specs.Draft.{said_as}
use Rattle.statement_drafts.specs.Drafts.{draft_of, form_of}
use Rattle.statement_drafts.specs.declared.drafts.Draft.{Draft}

-- with these expressions and this condition
abbrev pub said : List Schema → Draft → List Assignment → Option Cond → Statement
said schemas draft sets where_true = said_as (form_of draft.form) (record (draft_of schemas draft) { sets = sets; where_true = where_true })
