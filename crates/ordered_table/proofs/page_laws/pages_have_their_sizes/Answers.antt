use Rattle.std.proofs.Common.{arith}
use Rattle.ordered_table.proofs.SizeLemmas.{page_least, page_most, neighbours_more}
use Rattle.ordered_table.proofs.page_laws.pages_have_their_sizes.Goals as goal

pub returns-clause-least : goal.returns-clause-least
returns-clause-least c = λ n pages are within. page_least n 64 pages (omega arith) are within

pub returns-clause-most : goal.returns-clause-most
returns-clause-most c = λ n pages are within. page_most n 64 pages are within

pub returns-clause-neighbours : goal.returns-clause-neighbours
returns-clause-neighbours c = λ n pages are within. neighbours_more n 64 pages are within
