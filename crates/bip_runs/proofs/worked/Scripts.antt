-- The definitions, computed on scripts.
use Rattle.std.proofs.Common.{◌≡◌, ℕ, List, [], ◌∷◌, ◌++◌, Some, None, refl, codes, flat_map}
use Rattle.hex.specs.Hex.{encode_with}
use Rattle.script_form.specs.Traces.{trace_text}
use Rattle.script_form.specs.declared.lines.ScriptLine.TheVariants.{Passed, Start, Apdu, Cmd, Echo, Lose}
use Rattle.comprehension_tlv.specs.Reading.{template_of, value_at, length_at, tag_at, object_at, outline_at, outline_within}
use Rattle.comprehension_tlv.specs.Writing.{tagged}
use Rattle.toolkit_commands.specs.Reading.{list_of, details_found}
use Rattle.toolkit_commands.specs.Steps.{template_in, needed}
use Rattle.bip_channels.specs.Channels.{carried_out, answered, echoed, cut}
use Rattle.bip_channels.specs.Reading.{bip_of, command_of, command_in, opening_in, closing_in, receiving_in, sending_in, status_in}
use Rattle.bip_runs.specs.Parts.{moved_by}
use Rattle.bip_runs.specs.Traces.{trace_of}
use Rattle.bip_runs.specs.declared.effects.Place.TheVariants.{Before, Behind}

-- lines with their ends
abbrev with_ends : List (List ℕ) → List ℕ
with_ends lines = flat_map (λ line. line ++ 10 ∷ []) lines

-- ---- traces

-- bytes that are sent come back and are received, and no others
echoes : trace_of (Start ∷ Cmd (0xD0 ∷ 0x10 ∷ 0x81 ∷ 0x03 ∷ 0x01 ∷ 0x40 ∷ 0x01 ∷ 0x82 ∷ 0x02 ∷ 0x81 ∷ 0x82 ∷ 0xB5 ∷ 0x01 ∷ 0x03 ∷ 0xB9 ∷ 0x02 ∷ 0x00 ∷ 0x10 ∷ []) ∷ Cmd (0xD0 ∷ 0x0E ∷ 0x81 ∷ 0x03 ∷ 0x02 ∷ 0x43 ∷ 0x01 ∷ 0x82 ∷ 0x02 ∷ 0x81 ∷ 0x21 ∷ 0xB6 ∷ 0x03 ∷ 0x41 ∷ 0x42 ∷ 0x43 ∷ []) ∷ Echo 1 2 ∷ Cmd (0xD0 ∷ 0x0C ∷ 0x81 ∷ 0x03 ∷ 0x03 ∷ 0x42 ∷ 0x00 ∷ 0x82 ∷ 0x02 ∷ 0x81 ∷ 0x21 ∷ 0xB7 ∷ 0x01 ∷ 0x02 ∷ []) ∷ Cmd (0xD0 ∷ 0x0C ∷ 0x81 ∷ 0x03 ∷ 0x03 ∷ 0x42 ∷ 0x00 ∷ 0x82 ∷ 0x02 ∷ 0x81 ∷ 0x21 ∷ 0xB7 ∷ 0x01 ∷ 0x02 ∷ []) ∷ []) ≡ with_ends (codes "> D010810301400182028182B50103B9020010" ∷ codes "< 810301400182028281830100B8028100B50103B9020010" ∷ codes "> D00E810302430182028121B603414243" ∷ codes "< 810302430182028281830100B70110" ∷ codes "* event D60E99010982028281B8028100B70102" ∷ codes "> D00C810303420082028121B70102" ∷ codes "< 810303420082028281830100B6024142B70100" ∷ codes "> D00C810303420082028121B70102" ∷ codes "< 810303420082028281830102B600B70100" ∷ [])
unfolding answered carried_out echoed cut bip_of command_of command_in opening_in closing_in receiving_in sending_in status_in template_in needed details_found list_of template_of value_at length_at tag_at object_at outline_at outline_within tagged trace_text encode_with
echoes = refl

-- a channel is closed, and is not open then
closes : trace_of (Start ∷ Cmd (0xD0 ∷ 0x10 ∷ 0x81 ∷ 0x03 ∷ 0x01 ∷ 0x40 ∷ 0x01 ∷ 0x82 ∷ 0x02 ∷ 0x81 ∷ 0x82 ∷ 0xB5 ∷ 0x01 ∷ 0x03 ∷ 0xB9 ∷ 0x02 ∷ 0x00 ∷ 0x10 ∷ []) ∷ Cmd (0xD0 ∷ 0x09 ∷ 0x81 ∷ 0x03 ∷ 0x04 ∷ 0x41 ∷ 0x00 ∷ 0x82 ∷ 0x02 ∷ 0x81 ∷ 0x21 ∷ []) ∷ Cmd (0xD0 ∷ 0x09 ∷ 0x81 ∷ 0x03 ∷ 0x04 ∷ 0x41 ∷ 0x00 ∷ 0x82 ∷ 0x02 ∷ 0x81 ∷ 0x21 ∷ []) ∷ []) ≡ with_ends (codes "> D010810301400182028182B50103B9020010" ∷ codes "< 810301400182028281830100B8028100B50103B9020010" ∷ codes "> D009810304410082028121" ∷ codes "< 810304410082028281830100" ∷ codes "> D009810304410082028121" ∷ codes "< 81030441008202828183023A03" ∷ [])
unfolding answered carried_out echoed cut bip_of command_of command_in opening_in closing_in receiving_in sending_in status_in template_in needed details_found list_of template_of value_at length_at tag_at object_at outline_at outline_within tagged trace_text encode_with
closes = refl

-- a link is lost once, and no byte comes back then
loses : trace_of (Start ∷ Cmd (0xD0 ∷ 0x10 ∷ 0x81 ∷ 0x03 ∷ 0x01 ∷ 0x40 ∷ 0x01 ∷ 0x82 ∷ 0x02 ∷ 0x81 ∷ 0x82 ∷ 0xB5 ∷ 0x01 ∷ 0x03 ∷ 0xB9 ∷ 0x02 ∷ 0x00 ∷ 0x10 ∷ []) ∷ Cmd (0xD0 ∷ 0x0E ∷ 0x81 ∷ 0x03 ∷ 0x02 ∷ 0x43 ∷ 0x01 ∷ 0x82 ∷ 0x02 ∷ 0x81 ∷ 0x21 ∷ 0xB6 ∷ 0x03 ∷ 0x41 ∷ 0x42 ∷ 0x43 ∷ []) ∷ Lose 1 ∷ Lose 1 ∷ Echo 1 2 ∷ Cmd (0xD0 ∷ 0x0C ∷ 0x81 ∷ 0x03 ∷ 0x03 ∷ 0x42 ∷ 0x00 ∷ 0x82 ∷ 0x02 ∷ 0x81 ∷ 0x21 ∷ 0xB7 ∷ 0x01 ∷ 0x02 ∷ []) ∷ []) ≡ with_ends (codes "> D010810301400182028182B50103B9020010" ∷ codes "< 810301400182028281830100B8028100B50103B9020010" ∷ codes "> D00E810302430182028121B603414243" ∷ codes "< 810302430182028281830100B70110" ∷ codes "* event D60B99010A82028281B8020105" ∷ codes "> D00C810303420082028121B70102" ∷ codes "< 81030342008202828183023A02" ∷ [])
unfolding answered carried_out echoed cut bip_of command_of command_in opening_in closing_in receiving_in sending_in status_in template_in needed details_found list_of template_of value_at length_at tag_at object_at outline_at outline_within tagged trace_text encode_with
loses = refl

-- where no byte moves nothing is shown
moves_none : trace_of (Start ∷ Echo 1 1 ∷ Lose 7 ∷ Passed ∷ Cmd (0xD0 ∷ 0x09 ∷ 0x81 ∷ 0x03 ∷ 0x01 ∷ 0x44 ∷ 0x00 ∷ 0x82 ∷ 0x02 ∷ 0x81 ∷ 0x82 ∷ []) ∷ []) ≡ with_ends (codes "> D009810301440082028182" ∷ codes "< 810301440082028281830100B8020000" ∷ [])
unfolding answered carried_out echoed cut bip_of command_of command_in opening_in closing_in receiving_in sending_in status_in template_in needed details_found list_of template_of value_at length_at tag_at object_at outline_at outline_within tagged trace_text encode_with
moves_none = refl

-- ---- places

goes_on : moved_by Before (Passed ∷ Start ∷ Passed ∷ Cmd [] ∷ Echo 1 1 ∷ Lose 1 ∷ Passed ∷ []) ≡ Some Behind
goes_on = refl

not_started : moved_by Before (Passed ∷ Passed ∷ []) ≡ Some Before
not_started = refl

too_early : moved_by Before (Lose 1 ∷ Start ∷ []) ≡ None
too_early = refl

starts_once : moved_by Before (Start ∷ Start ∷ []) ≡ None
starts_once = refl

no_card : moved_by Before (Start ∷ Apdu [] ∷ []) ≡ None
no_card = refl
