-- The forms of lines, worked out on a few.
use Rattle.std.proofs.Common.{◌≡◌, [], ◌∷◌, ◌++◌, lit<, lit≤, refl, sym, codes}
use Rattle.std.proofs.lemmas.Fmt.{decimal_digit}
use Rattle.hex.specs.Hex.{decode_pairs, encode_with}
use Rattle.script_form.specs.declared.handset.Note.TheVariants.{Ask}
use Rattle.script_form.specs.declared.keywords.Keyword.TheVariants as keyword
use Rattle.script_form.specs.declared.keywords.NetworkAct.TheVariants as network
use Rattle.script_form.specs.declared.keywords.UserAct.TheVariants as user
use Rattle.script_form.specs.declared.lines.ScriptLine.TheVariants.{Cut, Fail, UserType, UserDial, Tpdu, Cmd, Echo, Lose}
use Rattle.script_form.specs.declared.trace.TraceLine.TheVariants.{Note, Response, Event}
use Rattle.script_form.specs.Forms.{IsLine}
use Rattle.script_form.specs.Traces.{message}
use Rattle.script_form.specs.Words.{words}

-- power is lost in the fifth program call, before any byte, and all others become FF
cut : IsLine (codes "cut 5") (Cut (record { call = 5; kept = 0; rest = 0xFF }))
unfolding words
cut = record {
  fits = lit≤ tt;
  says = record {
    word = codes "cut";
    others = codes "5" ∷ [];
    value = keyword.Cut;
    parted = refl;
    first = refl;
    rest = record {
      word = codes "5";
      others = [];
      value = 5;
      parted = refl;
      first = record { digits = sym (decimal_digit 5 (lit< tt)); above = lit≤ tt; below = lit≤ tt };
      rest = refl;
    };
  };
}

-- the third program call fails, and its bytes become AB
fails : IsLine (codes "fail 3 aB") (Fail (record { call = 3; rest = 0xAB }))
unfolding words decode_pairs
fails = record {
  fits = lit≤ tt;
  says = record {
    word = codes "fail";
    others = codes "3" ∷ codes "aB" ∷ [];
    value = keyword.Fail;
    parted = refl;
    first = refl;
    rest = record {
      word = codes "3";
      others = codes "aB" ∷ [];
      value = 3;
      parted = refl;
      first = record { digits = sym (decimal_digit 3 (lit< tt)); above = lit≤ tt; below = lit≤ tt };
      rest = record {
        word = codes "aB";
        others = [];
        value = 0xAB;
        parted = refl;
        first = record { digits = refl; many = refl };
        rest = record { none_left = refl; is = refl };
      };
    };
  };
}

-- the user types a text that begins with a space and has another
types : IsLine (codes "user type  a b") (UserType (codes " a b"))
unfolding words
types = record {
  fits = lit≤ tt;
  says = record {
    word = codes "user";
    others = codes "type" ∷ [] ∷ codes "a" ∷ codes "b" ∷ [];
    value = keyword.User;
    parted = refl;
    first = refl;
    rest = record {
      word = codes "type";
      others = [] ∷ codes "a" ∷ codes "b" ∷ [];
      value = user.Enter;
      parted = refl;
      first = refl;
      rest = record {
        text = codes " a b";
        behind = refl;
        typed = record { same = refl; fits = lit≤ tt; printable = refl };
        is = refl;
      };
    };
  };
}

-- a dialled number keeps its leading zeros
dials : IsLine (codes "user dial 00") (UserDial (codes "00"))
unfolding words
dials = record {
  fits = lit≤ tt;
  says = record {
    word = codes "user";
    others = codes "dial" ∷ codes "00" ∷ [];
    value = keyword.User;
    parted = refl;
    first = refl;
    rest = record {
      word = codes "dial";
      others = codes "00" ∷ [];
      value = user.Dial;
      parted = refl;
      first = refl;
      rest = record {
        word = codes "00";
        others = [];
        value = codes "00";
        parted = refl;
        first = record { same = refl; some = lit< tt; fits = lit≤ tt; decimal = refl };
        rest = record { none_left = refl; is = refl };
      };
    };
  };
}

-- the card is sent a TPDU, in digits of either case
tpdu : IsLine (codes "tpdu 00c0000014") (Tpdu (0 ∷ 0xC0 ∷ 0 ∷ 0 ∷ 0x14 ∷ []))
unfolding words decode_pairs
tpdu = record {
  fits = lit≤ tt;
  says = record {
    word = codes "tpdu";
    others = codes "00c0000014" ∷ [];
    value = keyword.Tpdu;
    parted = refl;
    first = refl;
    rest = record {
      word = codes "00c0000014";
      others = [];
      value = 0 ∷ 0xC0 ∷ 0 ∷ 0 ∷ 0x14 ∷ [];
      parted = refl;
      first = record { digits = refl; some = lit< tt; fits = lit≤ tt };
      rest = record { none_left = refl; is = refl };
    };
  };
}

-- a terminal is given the bytes of a command, whatever they are
gives : IsLine (codes "cmd D0fF") (Cmd (0xD0 ∷ 0xFF ∷ []))
unfolding words decode_pairs
gives = record {
  fits = lit≤ tt;
  says = record {
    word = codes "cmd";
    others = codes "D0fF" ∷ [];
    value = keyword.Cmd;
    parted = refl;
    first = refl;
    rest = record {
      word = codes "D0fF";
      others = [];
      value = 0xD0 ∷ 0xFF ∷ [];
      parted = refl;
      first = record { digits = refl; some = lit< tt; fits = lit≤ tt };
      rest = record { none_left = refl; is = refl };
    };
  };
}

-- the far end of channel 1 sends two bytes back
echoes : IsLine (codes "net echo 1 2") (Echo 1 2)
unfolding words
echoes = record {
  fits = lit≤ tt;
  says = record {
    word = codes "net";
    others = codes "echo" ∷ codes "1" ∷ codes "2" ∷ [];
    value = keyword.Net;
    parted = refl;
    first = refl;
    rest = record {
      word = codes "echo";
      others = codes "1" ∷ codes "2" ∷ [];
      value = network.Echo;
      parted = refl;
      first = refl;
      rest = record {
        word = codes "1";
        others = codes "2" ∷ [];
        value = 1;
        parted = refl;
        first = record { digits = sym (decimal_digit 1 (lit< tt)); above = lit≤ tt; below = lit≤ tt };
        rest = record {
          word = codes "2";
          others = [];
          value = 2;
          parted = refl;
          first = record { digits = sym (decimal_digit 2 (lit< tt)); above = lit≤ tt; below = lit≤ tt };
          rest = record { none_left = refl; is = refl };
        };
      };
    };
  };
}

-- the link of channel 7 is lost
loses : IsLine (codes "net drop 7") (Lose 7)
unfolding words
loses = record {
  fits = lit≤ tt;
  says = record {
    word = codes "net";
    others = codes "drop" ∷ codes "7" ∷ [];
    value = keyword.Net;
    parted = refl;
    first = refl;
    rest = record {
      word = codes "drop";
      others = codes "7" ∷ [];
      value = network.Lose;
      parted = refl;
      first = refl;
      rest = record {
        word = codes "7";
        others = [];
        value = 7;
        parted = refl;
        first = record { digits = sym (decimal_digit 7 (lit< tt)); above = lit≤ tt; below = lit≤ tt };
        rest = record { none_left = refl; is = refl };
      };
    };
  };
}

-- a terminal's response and the event that it reports
responds : message (Response (0x81 ∷ 0x03 ∷ [])) ≡ codes "< 8103"
unfolding encode_with
responds = refl

reports : message (Event (0xD6 ∷ 0x0E ∷ [])) ≡ codes "* event D60E"
unfolding encode_with
reports = refl

-- a byte that isn't printable is shown as a dot
asks : message (Note (Ask (0x1F ∷ codes "A~" ++ 0x7F ∷ []))) ≡ codes "* ask .A~."
asks = refl
