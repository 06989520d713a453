-- The laws that are put together from several lemmas.
use Rattle.std.proofs.Common.{refl}
use Rattle.cqs_slots.specs.Laws.{CellsAreWritten, ClaimedHeadsAreLit, CountsTell, DutiesAreDone, FoundWordsAreLater, TailsTell, WordsBeforeShowNothing}
use Rattle.cqs_slots.specs.Told.{all_seen}
use Rattle.cqs_slots.proofs.Counts.{few-counted, most-counted, count-found, counted-shows, counted-sound, counted-later, counted-counts}
use Rattle.cqs_slots.proofs.Loads.{tail-found, count-told}
use Rattle.cqs_slots.proofs.Marks.{is-young, lit}
use Rattle.cqs_slots.proofs.Stands.{found-is, found-later}
use Rattle.cqs_slots.proofs.Stays.{all-stay}
use Rattle.cqs_slots.proofs.Writes.{written}

pub lights : ClaimedHeadsAreLit
lights n t c words show sound x s home id lower found =
    let young = is-young n t c words show sound x s home id lower found in
    (young, lit n t c words show sound x s home id young)

pub counts : DutiesAreDone
counts n t c words show sound settled duties s x counted owed home =
    let few = few-counted t settled duties s counted owed in (
      record {
        found = count-found n t c words show sound s x home few;
        shows = counted-shows n t c words show sound s x home few;
        sound = counted-sound n t c words show sound s x home few;
        later = counted-later n t c words show sound s x home few;
      },
      λ fewer done others. counted-counts t settled duties fewer s counted done others,
    )

pub finds-later : FoundWordsAreLater
finds-later n t c words show sound s x j home few =
    (found-later n t c words s x j sound show home few, found-is n t c words s x j sound show home few)

pub writes : CellsAreWritten
writes n t c words show sound d s x j z home few seg is number before others =
    written n t c d words show sound s x j z home few seg is number before others

pub stays-before : WordsBeforeShowNothing
stays-before n t c words show sound words' long stay =
    all-stay n t c c words words' sound long stay (λ k. refl) show

pub tail-tells : TailsTell
tail-tells n t c words show sound = (tail-found n t c words show sound (all_seen t) refl refl).0

pub counts-tell : CountsTell
counts-tell n t c words show sound settled duties counted v x below k =
    count-told n t c words show sound v x below k (λ s. most-counted t settled duties s counted)
