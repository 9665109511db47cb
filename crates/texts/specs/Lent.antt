-- A string with its map and alphabet, as it is lent: the text that definitions speak of.
use Rattle.terms.specs.Texts.{Text, text}
use Rattle.texts.specs.declared.Text.{Text as Lent}

abbrev pub text_of : Lent → Text
text_of x = text x.letters.now x.map.now x.alphabet.now
