-- What contracts see of a writer's parts.
use Rattle.statement_text.specs.Written.{Written}
use Rattle.statement_text.specs.declared.writers.Writer.TheInside.{Inside}

abbrev pub written : Inside → Written
written writer = record { schemas = writer.schemas.now; text = writer.text.items }
