-- What a command reads that another one put there (ETSI TS 102 221, 11.1.3 to 11.1.6).
use Rattle.std.specs.Prelude.{◌≡◌, ◌≤◌, ℕ, length, Contains, Some, Ok}
use Rattle.apdu_form.specs.Model.{Apdu}
use Rattle.card_state.specs.Persistent.{File, Persistent}
use Rattle.card_state.specs.Soundness.{IsSound}
use Rattle.access_rules.specs.declared.rules.Verified.{Verified}
use Rattle.file_model.specs.Binaries.{binary_read, binary_updated, offset_of, short_in_p1}
use Rattle.file_model.specs.Files.{descriptor_in, descriptors_in}
use Rattle.file_model.specs.Outcomes.{FileOutcome, addressed, last_of, pointer_before}
use Rattle.file_model.specs.Records.{number_updated, record_named, record_read, record_updated, short_in_p2}
use Rattle.file_model.specs.declared.descriptors.Descriptor.{Descriptor}
use Rattle.file_model.specs.declared.selections.Selection.{Selection}

-- UPDATE BINARY was carried out on this file, and in the state that it leaves READ BINARY is, of the same file, from the same offset on, of as
-- many bytes: what is read is what was put.
abbrev pub BytesAreRead : Type 0
BytesAreRead = (state : Persistent) (seen now : Verified) (selection later : Selection) (update read : Apdu) (updated answered : FileOutcome) (whole : File) (file : Descriptor)
    → IsSound state → Contains state.files whole
    → binary_updated state seen selection update ≡ Ok updated → addressed (descriptors_in state) selection (short_in_p1 update) ≡ Ok (descriptor_in whole)
    → binary_read (last_of state updated.passed) now later read ≡ Ok answered
    → addressed (descriptors_in (last_of state updated.passed)) later (short_in_p1 read) ≡ Ok file → file.number ≡ whole.number
    → offset_of read ≡ offset_of update → read.expected ≡ Some (length update.body)
    → answered.body ≡ update.body

-- UPDATE RECORD was carried out on a record that is there, the first where the file is cyclic, and in the state that it leaves READ RECORD is, of
-- the record with that number: what is read is what was put.
abbrev pub RecordsAreRead : Type 0
RecordsAreRead = (state : Persistent) (seen now : Verified) (selection later : Selection) (update read : Apdu) (updated answered : FileOutcome) (whole : File) (file : Descriptor) (number : ℕ)
    → IsSound state → Contains state.files whole
    → record_updated state seen selection update ≡ Ok updated → addressed (descriptors_in state) selection (short_in_p2 update) ≡ Ok (descriptor_in whole)
    → number_updated (descriptor_in whole) update (pointer_before selection (short_in_p2 update)) ≡ Some number → 1 ≤ number → number ≤ (descriptor_in whole).count
    → record_read (last_of state updated.passed) now later read ≡ Ok answered
    → addressed (descriptors_in (last_of state updated.passed)) later (short_in_p2 read) ≡ Ok file → file.number ≡ whole.number
    → record_named file read (pointer_before later (short_in_p2 read)) ≡ Some number
    → answered.body ≡ update.body
