-- What the code keeps of a statement, in the words of the grammar.
use Rattle.std.specs.Prelude.{ℕ, List, [], Option, None, Some, slice_get}
use Rattle.row_types.specs.declared.table_schema.Schema.{Schema}
use Rattle.statement_grammar.specs.Draft as the
use Rattle.statement_grammar.specs.Terms.{column_or_0}
use Rattle.statement_drafts.specs.declared.drafts.Draft.{Draft}
use Rattle.statement_drafts.specs.declared.drafts.Form.{Form}
use Rattle.statement_drafts.specs.declared.drafts.Form.TheVariants as form

abbrev pub form_of : Form → the.Form
form_of form.Unknown = the.NoForm
form_of form.Insert = the.InsertForm
form_of form.Replace = the.ReplaceForm
form_of form.Delete = the.DeleteForm
form_of form.Update = the.UpdateForm
form_of form.Read = the.ReadForm
form_of form.Check = the.CheckForm
form_of form.Master = the.MasterForm
form_of form.Clear = the.ClearForm

abbrev pub schema_at : List Schema → Option ℕ → Option Schema
schema_at schemas None = None
schema_at schemas (Some n) = slice_get schemas n

-- without expressions and conditions
abbrev pub draft_of : List Schema → Draft → the.Draft
draft_of schemas d = record {
  form = form_of d.form;
  table = column_or_0 d.table;
  schema = schema_at schemas d.table;
  values = d.values;
  minus = d.minus;
  column = d.column;
  sets = [];
  where_true = None;
  mode = d.mode;
  chunk = d.chunk;
  is_after = d.is_after;
  lo = d.lo;
  hi = d.hi;
  kind = d.kind;
  count = d.count;
  crc = d.crc;
}
