use Rattle.books.proofs.laws.origins_of_words.Goals as goal
use Rattle.books.proofs.Listing.{listing_words, words_have_origins}

pub returns : goal.returns
returns c = record { words = listing_words; origins = words_have_origins }
