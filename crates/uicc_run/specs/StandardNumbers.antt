-- The numbers that the code and its definitions share by name, as the standards and the layout have them: a constant that becomes another
-- number breaks a field here.
use Rattle.std.specs.Prelude.{◌≡◌, [], ◌∷◌}
use Rattle.uicc_types.specs.declared.answers.TheConstants.StatusWord as status
use Rattle.uicc_types.specs.declared.identifiers.TheConstants.FileId as reserved
use Rattle.uicc_types.specs.declared.keys.TheConstants as key
use Rattle.uicc_types.specs.declared.events.TheConstants as event
use Rattle.uicc_types.specs.declared.byte_lists.TheConstants.{LONGEST_COMMAND}
use Rattle.t0_link.specs.declared.instructions.TheConstants as fetched_by
use Rattle.t0_link.specs.declared.answers.TheConstants as over_t0
use Rattle.byte_streams.specs.declared.limits.TheConstants as line
use Rattle.script_form.specs.declared.lines.TheConstants as path
use Rattle.eeprom_model.specs.declared.device.TheConstants.{PAGE_LENGTH}
use Rattle.store_form.specs.declared.store.TheConstants as own
use Rattle.store_form.specs.declared.writes.TheConstants as most
use Rattle.update_journal.specs.declared.steps.TheConstants as journal_at
use Rattle.page_store.specs.declared.places.TheConstants as page
use Rattle.card_state.specs.declared.kinds.TheConstants as file
use Rattle.card_state.specs.declared.sizes.TheConstants as bound
use Rattle.card_state.specs.declared.places.TheConstants as place
use Rattle.card_state.specs.declared.events.TheConstants.{EVENTS_END}
use Rattle.toolkit_commands.specs.declared.tags.TheConstants as tag
use Rattle.toolkit_commands.specs.declared.kinds.TheConstants as command
use Rattle.toolkit_commands.specs.declared.results.TheConstants as general
use Rattle.toolkit_commands.specs.declared.devices.TheConstants as device
use Rattle.toolkit_commands.specs.declared.qualifiers.TheConstants as qualifier
use Rattle.applet_trait.specs.declared.numbers.TheConstants as number
use Rattle.applet_trait.specs.declared.actions.TheConstants as action
use Rattle.applet_trait.specs.declared.texts.TheConstants as text
use Rattle.event_dispatch.specs.declared.late.TheConstants.Late as late
use Rattle.event_dispatch.specs.declared.waiting.TheConstants.Waiting as waiting
use Rattle.handset_model.specs.declared.TheConstants as handset
use Rattle.bip_channels.specs.declared.codes.TheConstants as channel
use Rattle.bip_channels.specs.declared.channels.TheConstants as channel_of

-- each constant that code and definitions share has the value of its standard, or of the layout
pub record StandardNumbers : Type 0 where
  -- status words (ISO 7816-4, 5.1.3; ETSI TS 102 221, 10.2.1)
  pub status_words : status.DONE.0 ∷ status.END_OF_FILE.0 ∷ status.FILE_DEACTIVATED.0 ∷ status.MEMORY_PROBLEM.0 ∷ status.WRONG_LENGTH.0 ∷ status.NO_SUCH_CHANNEL.0 ∷ status.NO_SECURE_MESSAGING.0 ∷ status.WRONG_STRUCTURE.0 ∷ status.SECURITY_NOT_SATISFIED.0 ∷ status.PIN_BLOCKED.0 ∷ status.PIN_DISABLED.0 ∷ status.CONDITIONS_NOT_SATISFIED.0 ∷ status.NO_CURRENT_FILE.0 ∷ status.WRONG_DATA.0 ∷ status.NO_FREE_CHANNEL.0 ∷ status.FILE_NOT_FOUND.0 ∷ status.RECORD_NOT_FOUND.0 ∷ status.NO_ROOM.0 ∷ status.WRONG_PARAMETERS.0 ∷ status.REFERENCE_NOT_FOUND.0 ∷ status.FILE_ALREADY_THERE.0 ∷ status.WRONG_OFFSET.0 ∷ status.NO_SUCH_INSTRUCTION.0 ∷ status.NO_SUCH_CLASS.0 ∷ status.TOOLKIT_BUSY.0 ∷ status.OVERFLOW.0 ∷ []
      ≡ 0x9000 ∷ 0x6282 ∷ 0x6283 ∷ 0x6581 ∷ 0x6700 ∷ 0x6881 ∷ 0x6882 ∷ 0x6981 ∷ 0x6982 ∷ 0x6983 ∷ 0x6984 ∷ 0x6985 ∷ 0x6986 ∷ 0x6A80 ∷ 0x6A81 ∷ 0x6A82 ∷ 0x6A83 ∷ 0x6A84 ∷ 0x6A86 ∷ 0x6A88 ∷ 0x6A89 ∷ 0x6B00 ∷ 0x6D00 ∷ 0x6E00 ∷ 0x9300 ∷ 0x9850 ∷ []
  -- identifiers that are reserved (ETSI TS 102 221, 8.6)
  pub reserved_identifiers : reserved.MF.0 ∷ reserved.CURRENT_ADF.0 ∷ []
      ≡ 0x3F00 ∷ 0x7FFF ∷ []
  -- key references (ETSI TS 102 221, 9.5.1)
  pub keys : key.PIN_1 ∷ key.PIN_2 ∷ key.ADM_1 ∷ []
      ≡ 0x01 ∷ 0x81 ∷ 0x0A ∷ []
  -- events (ETSI TS 102 223, 8.25); those from 40 on are this card's own
  pub events : event.MT_CALL ∷ event.CALL_CONNECTED ∷ event.CALL_DISCONNECTED ∷ event.LOCATION_STATUS ∷ event.USER_ACTIVITY ∷ event.IDLE_SCREEN ∷ event.LANGUAGE_SELECTION ∷ event.DATA_AVAILABLE ∷ event.CHANNEL_STATUS ∷ event.PROFILE_DOWNLOAD ∷ event.STATUS_COMMAND ∷ event.MENU_SELECTION ∷ event.TIMER_EXPIRATION ∷ event.CALL_CONTROL ∷ []
      ≡ 0x00 ∷ 0x01 ∷ 0x02 ∷ 0x03 ∷ 0x04 ∷ 0x05 ∷ 0x07 ∷ 0x09 ∷ 0x0A ∷ 0x40 ∷ 0x41 ∷ 0x43 ∷ 0x44 ∷ 0x45 ∷ []
  -- file descriptor bytes and life cycle statuses (ETSI TS 102 221, 11.1.1.4.3 and 11.1.1.4.9)
  pub file_kinds : file.DF ∷ file.TRANSPARENT ∷ file.LINEAR ∷ file.CYCLIC ∷ file.ACTIVATED ∷ file.DEACTIVATED ∷ []
      ≡ 0x78 ∷ 0x41 ∷ 0x42 ∷ 0x46 ∷ 0x05 ∷ 0x04 ∷ []
  -- bounds of a card
  pub bounds : bound.NODE_WIDTH ∷ bound.PIN_WIDTH ∷ bound.ROW_WIDTH ∷ bound.ROW_STRIDE ∷ bound.NODE_COUNT ∷ bound.PIN_COUNT ∷ bound.ROW_COUNT ∷ bound.LOWER_ROW_COUNT ∷ bound.TEXT_LIMIT ∷ bound.MENU_LIMIT ∷ bound.KEPT_WIDTH ∷ bound.KEPT_LIMIT ∷ bound.SIZE_LIMIT ∷ bound.RECORD_LIMIT ∷ bound.TRIES ∷ bound.UNBLOCK_TRIES ∷ []
      ≡ 16 ∷ 20 ∷ 51 ∷ 64 ∷ 128 ∷ 3 ∷ 32 ∷ 16 ∷ 10 ∷ 16 ∷ 32 ∷ 64 ∷ 32767 ∷ 254 ∷ 3 ∷ 10 ∷ []
  -- places in the memory
  pub places : place.MEMORY_SIZE ∷ place.VERSION ∷ place.NARROW_VERSION ∷ place.WIDE_VERSION ∷ place.STORE_MARK ∷ place.SEQUENCE ∷ place.PINS ∷ place.ROWS ∷ place.NODES ∷ place.DATA ∷ place.UPPER_ROWS ∷ place.KEPT_APART ∷ []
      ≡ 65536 ∷ 4 ∷ 1 ∷ 2 ∷ 5 ∷ 6 ∷ 832 ∷ 896 ∷ 1920 ∷ 3968 ∷ 63488 ∷ 64512 ∷ []
  -- templates and objects of the toolkit (ETSI TS 101 220, 7.2)
  pub toolkit_tags : tag.PROACTIVE_COMMAND ∷ tag.MENU_SELECTION ∷ tag.CALL_CONTROL ∷ tag.EVENT_DOWNLOAD ∷ tag.TIMER_EXPIRATION ∷ tag.COMMAND_DETAILS ∷ tag.DEVICE_IDENTITIES ∷ tag.RESULT ∷ tag.DURATION ∷ tag.ALPHA_IDENTIFIER ∷ tag.ADDRESS ∷ tag.TEXT_STRING ∷ tag.TONE ∷ tag.ITEM ∷ tag.ITEM_IDENTIFIER ∷ tag.RESPONSE_LENGTH ∷ tag.LOCATION_INFORMATION ∷ tag.EVENT_LIST ∷ tag.LOCATION_STATUS ∷ tag.TIMER_IDENTIFIER ∷ tag.TIMER_VALUE ∷ []
      ≡ 0xD0 ∷ 0xD3 ∷ 0xD4 ∷ 0xD6 ∷ 0xD7 ∷ 0x01 ∷ 0x02 ∷ 0x03 ∷ 0x04 ∷ 0x05 ∷ 0x06 ∷ 0x0D ∷ 0x0E ∷ 0x0F ∷ 0x10 ∷ 0x11 ∷ 0x13 ∷ 0x19 ∷ 0x1B ∷ 0x24 ∷ 0x25 ∷ []
  -- proactive commands (ETSI TS 102 223, 9.4)
  pub commands : command.REFRESH ∷ command.MORE_TIME ∷ command.POLL_INTERVAL ∷ command.SET_UP_EVENT_LIST ∷ command.PLAY_TONE ∷ command.DISPLAY_TEXT ∷ command.GET_INKEY ∷ command.GET_INPUT ∷ command.SELECT_ITEM ∷ command.SET_UP_MENU ∷ command.LOCAL_INFORMATION ∷ command.TIMER_MANAGEMENT ∷ command.IDLE_TEXT ∷ []
      ≡ 0x01 ∷ 0x02 ∷ 0x03 ∷ 0x05 ∷ 0x20 ∷ 0x21 ∷ 0x22 ∷ 0x23 ∷ 0x24 ∷ 0x25 ∷ 0x26 ∷ 0x27 ∷ 0x28 ∷ []
  -- general results (ETSI TS 102 223, 8.12)
  pub results : general.PERFORMED ∷ general.SESSION_ENDED ∷ general.BACKWARD_MOVE ∷ general.NO_RESPONSE ∷ general.UNABLE_TO_PROCESS ∷ general.AGAINST_TIMER_STATE ∷ general.BEYOND_CAPABILITIES ∷ general.TYPE_NOT_UNDERSTOOD ∷ general.DATA_NOT_UNDERSTOOD ∷ general.VALUES_MISSING ∷ []
      ≡ 0x00 ∷ 0x10 ∷ 0x11 ∷ 0x12 ∷ 0x20 ∷ 0x24 ∷ 0x30 ∷ 0x31 ∷ 0x32 ∷ 0x36 ∷ []
  -- devices (ETSI TS 102 223, 8.7)
  pub devices : device.KEYPAD ∷ device.DISPLAY ∷ device.EARPIECE ∷ device.CARD ∷ device.TERMINAL ∷ []
      ≡ 0x01 ∷ 0x02 ∷ 0x03 ∷ 0x81 ∷ 0x82 ∷ []
  -- command qualifiers (ETSI TS 102 223, 8.6)
  pub qualifiers : qualifier.NONE ∷ qualifier.CARD_RESET ∷ qualifier.UNTIL_CLEARED ∷ qualifier.DIGITS ∷ qualifier.CHARACTERS ∷ qualifier.LOCATION ∷ qualifier.START ∷ qualifier.DEACTIVATE ∷ qualifier.GET_VALUE ∷ qualifier.EIGHT_BITS ∷ qualifier.IN_SECONDS ∷ []
      ≡ 0x00 ∷ 0x04 ∷ 0x80 ∷ 0x00 ∷ 0x01 ∷ 0x00 ∷ 0x00 ∷ 0x01 ∷ 0x02 ∷ 0x04 ∷ 0x01 ∷ []
  -- commands, objects, bearers and results of the bearer independent protocol (ETSI TS 102 223, 9.4, 8.52 to 8.56, 8.12.11)
  pub channel_codes : channel.OPEN_CHANNEL ∷ channel.CLOSE_CHANNEL ∷ channel.RECEIVE_DATA ∷ channel.SEND_DATA ∷ channel.GET_CHANNEL_STATUS ∷ channel.AT_ONCE ∷ channel.SEND_NOW ∷ channel.BEARER_DESCRIPTION ∷ channel.CHANNEL_DATA ∷ channel.CHANNEL_DATA_LENGTH ∷ channel.CHANNEL_STATUS ∷ channel.BUFFER_SIZE ∷ channel.DEFAULT_BEARER ∷ channel.CHANNEL_DEVICES ∷ channel.MISSING_INFORMATION ∷ channel.PROTOCOL_ERROR ∷ channel.NONE_AVAILABLE ∷ channel.CHANNEL_CLOSED ∷ channel.NOT_VALID ∷ channel.SIZE_NOT_AVAILABLE ∷ channel.LINK_UP ∷ channel.NOTHING_MORE ∷ channel.LINK_DROPPED ∷ []
      ≡ 0x40 ∷ 0x41 ∷ 0x42 ∷ 0x43 ∷ 0x44 ∷ 0x01 ∷ 0x01 ∷ 0x35 ∷ 0x36 ∷ 0x37 ∷ 0x38 ∷ 0x39 ∷ 0x03 ∷ 0x20 ∷ 0x02 ∷ 0x3A ∷ 0x01 ∷ 0x02 ∷ 0x03 ∷ 0x04 ∷ 0x80 ∷ 0x00 ∷ 0x05 ∷ []
  -- commands that have data to fetch over T=0 (ISO 7816-4, 5.1.2)
  pub fetched : fetched_by.GET_RESPONSE ∷ fetched_by.READ_BINARY ∷ fetched_by.READ_RECORD ∷ fetched_by.FETCH ∷ fetched_by.STATUS ∷ fetched_by.MANAGE_CHANNEL ∷ []
      ≡ 0xC0 ∷ 0xB0 ∷ 0xB2 ∷ 0x12 ∷ 0xF2 ∷ 0x70 ∷ []
  -- SW1 of an answer that goes on over T=0 (ISO 7816-3, 12.2)
  pub first_bytes : over_t0.MORE_DATA ∷ over_t0.WRONG_LE ∷ []
      ≡ 0x61 ∷ 0x6C ∷ []
  -- a store's own bytes
  pub own_bytes : own.OWN_START ∷ own.OWN_END ∷ []
      ≡ 64 ∷ 832 ∷ []
  -- what a commit may have
  pub commit_bounds : most.MOST_PIECES ∷ most.MOST_BYTES ∷ []
      ≡ 4 ∷ 640 ∷ []
  -- the journal's gate and entries
  pub journal : journal_at.GATE ∷ journal_at.ENTRIES ∷ journal_at.OPEN ∷ journal_at.CLOSED ∷ []
      ≡ 64 ∷ 128 ∷ 0x5A ∷ 0 ∷ []
  -- the pages of a store whose pages move
  pub pages : page.PAGE_COUNT ∷ page.DEVICE_SIZE ∷ page.CONTENT_SIZE ∷ page.PAGES ∷ page.FIRST_MAPPED ∷ page.MAPPED ∷ page.MAP ∷ page.MAP_END ∷ page.POOL ∷ page.FREE ∷ []
      ≡ 1120 ∷ 71680 ∷ 65536 ∷ 1024 ∷ 13 ∷ 1011 ∷ 832 ∷ 2854 ∷ 45 ∷ 64 ∷ []
  -- the kinds of applets, and the numbers by which they go
  pub applets : bound.LAST_KIND ∷ number.LAST_GOOD ∷ number.MOST_KEPT ∷ number.TEXT ∷ number.TONE ∷ number.GENERAL_BEEP ∷ number.LOCATION_INFORMATION ∷ number.START ∷ number.MINUTES ∷ number.MOST_DIGITS ∷ number.LONGEST_NOTE ∷ []
      ≡ 7 ∷ 0x0F ∷ 32 ∷ 1 ∷ 2 ∷ 0x10 ∷ 0x13 ∷ 0 ∷ 5 ∷ 10 ∷ 20 ∷ []
  -- the actions of the rows that an applet of kind 7 keeps
  pub actions : action.SHOW ∷ action.PLAY_TONE ∷ action.MORE_TIME ∷ action.TELL_INFORMATION ∷ action.REFRESH ∷ action.GET_KEY ∷ action.REGISTER ∷ action.DEREGISTER ∷ action.SHOW_WHEN_IDLE ∷ action.TAKE_TIMER ∷ []
      ≡ 0x01 ∷ 0x02 ∷ 0x03 ∷ 0x04 ∷ 0x05 ∷ 0x06 ∷ 0x07 ∷ 0x08 ∷ 0x09 ∷ 0x0A ∷ []
  -- the texts that applets show or ask by
  pub texts : text.GREETING.now ∷ text.CHOICE_TITLE.now ∷ text.TEXT_ITEM.now ∷ text.TONE_ITEM.now ∷ text.TICK.now ∷ text.LOST.now ∷ text.MOVED.now ∷ text.ACTIVE.now ∷ text.IDLE.now ∷ text.ASK_FOR_DIGITS.now ∷ text.ASK_FOR_NOTE.now ∷ []
      ≡ (0x48 ∷ 0x69 ∷ []) ∷ (0x50 ∷ 0x69 ∷ 0x63 ∷ 0x6B ∷ []) ∷ (0x54 ∷ 0x65 ∷ 0x78 ∷ 0x74 ∷ []) ∷ (0x54 ∷ 0x6F ∷ 0x6E ∷ 0x65 ∷ []) ∷ (0x54 ∷ 0x69 ∷ 0x63 ∷ 0x6B ∷ []) ∷ (0x4C ∷ 0x6F ∷ 0x73 ∷ 0x74 ∷ []) ∷ (0x4D ∷ 0x6F ∷ 0x76 ∷ 0x65 ∷ 0x64 ∷ []) ∷ (0x41 ∷ 0x63 ∷ 0x74 ∷ 0x69 ∷ 0x76 ∷ 0x65 ∷ []) ∷ (0x49 ∷ 0x64 ∷ 0x6C ∷ 0x65 ∷ []) ∷ (0x42 ∷ 0x61 ∷ 0x72 ∷ 0x3F ∷ []) ∷ (0x4E ∷ 0x6F ∷ 0x74 ∷ 0x65 ∷ 0x3F ∷ []) ∷ []
  -- the longest command in the short form (ISO 7816-4, 5.1)
  pub longest_command : LONGEST_COMMAND ≡ 261
  -- a script's lines, and a path's identifiers
  pub script_bounds : line.LONGEST_LINE ∷ line.MOST_BYTES ∷ path.DEEPEST ∷ []
      ≡ 600 ∷ 16777216 ∷ 8 ∷ []
  -- the commands of a handset for one line
  pub most_commands : handset.MOST_COMMANDS ≡ 65535
  -- a channel's buffer, the bytes that it keeps to be sent, those of one RECEIVE DATA, and the ring that holds them
  pub channel_bounds : channel_of.MOST_SIZE ∷ channel_of.MOST_OUTGOING ∷ channel_of.MOST_RECEIVED ∷ channel_of.RING ∷ []
      ≡ 1500 ∷ 4096 ∷ 237 ∷ 7096 ∷ []
  -- the bytes of a page of a device
  pub page_length : PAGE_LENGTH ≡ 64
  -- the bits of a row's events are below this
  pub events_end : EVENTS_END ≡ 4096
  -- the queues of late triggers and of commands that wait: how many, and in how many bytes
  pub queues : late.MOST ∷ late.ROOM ∷ waiting.MOST ∷ waiting.ROOM ∷ []
      ≡ 16 ∷ 4112 ∷ 32 ∷ 8192 ∷ []
