-- What is told in fixed words: a kind of unit, the glottal stop's place in a set, an order of the processor's, a mark.
-- Assumes nothing.
use Rattle.std.specs.Prelude.{Bool, List, [], ℕ, codes, if◌then◌else◌}
use Rattle.interrupt.specs.declared.Kind.{Kind}
use Rattle.interrupt.specs.declared.Kind.TheVariants.{Eds8, MightyMux}
use Rattle.words.specs.Special.{special_in}
use Rattle.processor.specs.declared.orders.Order.{Order}
use Rattle.processor.specs.declared.orders.Order.TheVariants.{Reset, Iopls, Start, Doc, Dob, Dia, Dias, Tick}

abbrev pub kind_words : Kind → List ℕ
kind_words Eds8 = codes "an EDS-8"
kind_words MightyMux = codes "a Mighty Mux"

-- the set's word on octal 174
abbrev pub glottal_words : List Bool → List ℕ
glottal_words set = if special_in set 124 then codes "special" else codes "ordinary"

abbrev pub order_words : Order → List ℕ
order_words Reset = codes "reset"
order_words Iopls = codes "IOPLS"
order_words Start = codes "START"
order_words Doc = codes "DOC"
order_words Dob = codes "DOB"
order_words Dia = codes "DIA"
order_words Dias = codes "DIAS"
order_words Tick = codes "a tick of the clock"

-- its words, where it is on
abbrev pub mark : Bool → List ℕ → List ℕ
mark on words = if on then words else []
