use Rattle.word_text.proofs.Cuts.{are_pieces, bytes_of_pieces, words_of_pieces, number_of_pieces}
use Rattle.word_text.proofs.laws.pieces_are_the_text.Goals as goal

pub returns : goal.returns
returns c = record { cut = are_pieces; bytes = bytes_of_pieces; words = words_of_pieces; few = number_of_pieces }
