use Rattle.statement_reader.specs.Spots.{spot_of}
use Rattle.statement_reading.proofs.TokenFits.{fits_so}
use Rattle.statement_reading.proofs.readers.Reader.take.Goals as goal

pub take_token-requires-clause-fits : goal.take_token-requires-clause-fits
take_token-requires-clause-fits c = fits_so (spot_of c.args.self.spot) (spot_of c.args.next) c.args.token.word c.requires.fits
