-- Scripts that fit, line by line, and a scene that goes on.
use Rattle.std.proofs.Common.{◌≡◌, ◌∙◌, List, [], ◌∷◌, ◌++◌, sym, subst}
use Rattle.std.specs.List.{AllByRecursion}
use Rattle.row_types.specs.declared.table_schema.Schema.{Schema}
use Rattle.ptc_statement.specs.declared.scripts.ScriptLine.{ScriptLine}
use Rattle.node_builders.specs.Nodes.{one_table}
use Rattle.session.specs.Sessions.{RunFits}
use Rattle.session_tests.specs.Scenes.{LinesFit, IsScene, SceneFits}

more_fit : (lines : List ScriptLine) (line : ScriptLine) → LinesFit lines → RunFits one_table line.step → LinesFit (lines ++ line ∷ [])
more_fit [] line fit fits = (fits, tt)
more_fit (first ∷ lines) line fit fits = (fit.0, more_fit lines line fit.1 fits)

pub one_more : (old new : List ScriptLine) (line : ScriptLine) → LinesFit old → RunFits one_table line.step → new ≡ old ++ line ∷ [] → LinesFit new
one_more old new line fit fits is = subst LinesFit (sym is) (more_fit old line fit fits)

pub fit_here : (schemas : List Schema) (lines : List ScriptLine) → IsScene schemas lines → AllByRecursion (λ (line : ScriptLine). RunFits schemas line.step) lines
fit_here schemas lines is = subst (λ (ss : List Schema). AllByRecursion (λ (line : ScriptLine). RunFits ss line.step) lines) (sym is.schemas_are) is.lines_fit

-- a scene and its parts

pub one_here : (schemas : List Schema) (one two : List ScriptLine) → SceneFits schemas one two → IsScene schemas one
one_here schemas one two fits = record { schemas_are = fits.schemas_are; lines_fit = fits.one_fits }

pub two_here : (schemas : List Schema) (one two : List ScriptLine) → SceneFits schemas one two → IsScene schemas two
two_here schemas one two fits = record { schemas_are = fits.schemas_are; lines_fit = fits.two_fits }

pub with_one : (old new : List Schema) (one two after : List ScriptLine) → new ≡ old → after ≡ one → SceneFits old one two → SceneFits new after two
with_one old new one two after same lines fits =
    record { schemas_are = same ∙ fits.schemas_are; one_fits = subst LinesFit (sym lines) fits.one_fits; two_fits = fits.two_fits }

pub with_two : (old new : List Schema) (one two after : List ScriptLine) → new ≡ old → after ≡ two → SceneFits old one two → SceneFits new one after
with_two old new one two after same lines fits =
    record { schemas_are = same ∙ fits.schemas_are; one_fits = fits.one_fits; two_fits = subst LinesFit (sym lines) fits.two_fits }

pub with_node : (old new : List Schema) (one two : List ScriptLine) → new ≡ old → SceneFits old one two → SceneFits new one two
with_node old new one two same fits = record { schemas_are = same ∙ fits.schemas_are; one_fits = fits.one_fits; two_fits = fits.two_fits }
