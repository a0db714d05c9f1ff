-- The shipped descriptions' texts, line by line, in blocks that several of them may have: description/pdp8.rows is the plain machine's, description/pdp8-devices.rows its twin's with devices. What a text says of the machine
-- need not be believed: that its cycles do the machine's steps is proved.
-- Assumes nothing.
use Rattle.std.specs.Prelude.{List, ◌++◌, ℕ}
use Rattle.characters.specs.Ascii.{ascii}
use Rattle.shipped_rows.specs.Variant.{Variant, plain, devices}

-- the header, and the machine registers that every variant has
abbrev machine_lines : List ℕ
machine_lines =
    ascii "rows\t1\n"
    ++ ascii "reg\tLAC\t13\n"
    ++ ascii "reg\tPC\t12\n"
    ++ ascii "reg\tRUN\t1\n"
    ++ ascii "reg\tINTERRUPT.ENABLE\t1\n"
    ++ ascii "reg\tINTERRUPT.REQUEST\t1\n"
    ++ ascii "reg\tSWITCHES\t12\n"

-- document 02, Two: "A shipped twin has them"
abbrev device_lines : List ℕ
device_lines =
    ascii "reg\tKEY.BYTE\t8\n"
    ++ ascii "reg\tKEYBOARD.FLAG\t1\n"
    ++ ascii "reg\tPRINTER.FLAG\t1\n"
    ++ ascii "reg\tPRINT.BYTE\t8\n"
    ++ ascii "reg\tPRINT.MARK\t1\n"

-- "A shipped description's registers that the emulator lacks are its working registers"
abbrev working_lines : List ℕ
working_lines =
    ascii "reg\ti\t12\n"
    ++ ascii "reg\tlast.pc\t12\n"
    ++ ascii "reg\teadd\t12\n"
    ++ ascii "reg\tskip\t1\n"

-- the fetch, and which instructions are of ops 6 and 7
abbrev fetch_lines : List ℕ
fetch_lines =
    ascii "do\t1\ti\tM[PC]\n"
    ++ ascii "do\t1\tlast.pc\tPC\n"
    ++ ascii "do\t1\tPC\tPC + 1\n"
    ++ ascii "go\ti<0:2> Eql #6\tiot\n"
    ++ ascii "go\ti<0:2> Eql #7\topr\n"

-- the address, which ops 0 to 5 work on
abbrev address_lines : List ℕ
address_lines =
    ascii "do\t1\teadd\t'00000 @ i<5:11>\n"
    ++ ascii "do\ti<4>\teadd\tlast.pc<0:4> @ i<5:11>\n"
    ++ ascii "go\tNot i<3>\texecute\n"
    ++ ascii "do\teadd<0:8> Eql #001\tM[eadd]\tM[eadd] + 1\n"
    ++ ascii "do\t1\teadd\tM[eadd]\n"

-- ops 0 to 5
abbrev reference_lines : List ℕ
reference_lines =
    ascii "at\texecute\n"
    ++ ascii "go\ti<0:2> Eql #0\tand\n"
    ++ ascii "go\ti<0:2> Eql #1\ttad\n"
    ++ ascii "go\ti<0:2> Eql #2\tisz\n"
    ++ ascii "go\ti<0:2> Eql #3\tdca\n"
    ++ ascii "go\ti<0:2> Eql #4\tjms\n"
    ++ ascii "at\tjmp\n"
    ++ ascii "do\t1\tPC\teadd\n"
    ++ ascii "go\t1\tinterrupt\n"
    ++ ascii "at\tand\n"
    ++ ascii "do\t1\tLAC<1:12>\tLAC<1:12> And M[eadd]\n"
    ++ ascii "go\t1\tinterrupt\n"
    ++ ascii "at\ttad\n"
    ++ ascii "do\t1\tLAC\tLAC + M[eadd]\n"
    ++ ascii "go\t1\tinterrupt\n"
    ++ ascii "at\tisz\n"
    ++ ascii "do\t1\tM[eadd]\tM[eadd] + 1\n"
    ++ ascii "do\tM[eadd] Eql 0\tPC\tPC + 1\n"
    ++ ascii "go\t1\tinterrupt\n"
    ++ ascii "at\tdca\n"
    ++ ascii "do\t1\tM[eadd]\tLAC<1:12>\n"
    ++ ascii "do\t1\tLAC<1:12>\t0\n"
    ++ ascii "go\t1\tinterrupt\n"
    ++ ascii "at\tjms\n"
    ++ ascii "do\t1\tM[eadd]\tPC\n"
    ++ ascii "do\t1\tPC\teadd + 1\n"
    ++ ascii "go\t1\tinterrupt\n"

-- op 6: 6001 and 6002
abbrev switch_lines : List ℕ
switch_lines =
    ascii "at\tiot\n"
    ++ ascii "do\ti Eql #6001\tINTERRUPT.ENABLE\t1\n"
    ++ ascii "go\ti Eql #6001\trestart\n"
    ++ ascii "do\ti Eql #6002\tINTERRUPT.ENABLE\t0\n"

-- the words of keyboard and teleprinter: KSF and TSF; KCC and KRB; KRS and KRB; TCF and TLS; TPC and TLS
abbrev keyboard_lines : List ℕ
keyboard_lines =
    ascii "do\ti Eql #6031 And KEYBOARD.FLAG Or i Eql #6041 And PRINTER.FLAG\tPC\tPC + 1\n"
    ++ ascii "do\ti Eql #6032 Or i Eql #6036\tLAC<1:12>\t0\n"
    ++ ascii "do\ti Eql #6032 Or i Eql #6036\tKEYBOARD.FLAG\t0\n"
    ++ ascii "do\ti Eql #6034 Or i Eql #6036\tLAC<5:12>\tLAC<5:12> Or KEY.BYTE\n"
    ++ ascii "do\ti Eql #6042 Or i Eql #6046\tPRINTER.FLAG\t0\n"
    ++ ascii "do\ti Eql #6044 Or i Eql #6046\tPRINT.BYTE\tLAC<5:12>\n"
    ++ ascii "do\ti Eql #6044 Or i Eql #6046\tPRINT.MARK\t1\n"

-- the end of op 6, and op 7
abbrev operate_lines : List ℕ
operate_lines =
    ascii "go\t1\tinterrupt\n"
    ++ ascii "at\topr\n"
    ++ ascii "go\ti<3>\tgroup.2\n"
    ++ ascii "do\ti<4>\tLAC<1:12>\t0\n"
    ++ ascii "do\ti<5>\tLAC<0>\t0\n"
    ++ ascii "do\ti<6>\tLAC<1:12>\tNot LAC<1:12>\n"
    ++ ascii "do\ti<7>\tLAC<0>\tNot LAC<0>\n"
    ++ ascii "do\ti<11>\tLAC\tLAC + 1\n"
    ++ ascii "go\ti<10>\ttwice\n"
    ++ ascii "do\ti<9>\tLAC\tLAC Slr 1\n"
    ++ ascii "do\ti<8>\tLAC\tLAC Srr 1\n"
    ++ ascii "go\t1\tinterrupt\n"
    ++ ascii "at\ttwice\n"
    ++ ascii "do\ti<9>\tLAC\tLAC Slr 2\n"
    ++ ascii "do\ti<8>\tLAC\tLAC Srr 2\n"
    ++ ascii "go\t1\tinterrupt\n"
    ++ ascii "at\tgroup.2\n"
    ++ ascii "go\ti<11>\tgroup.3\n"
    ++ ascii "do\t1\tskip\t0\n"
    ++ ascii "do\ti<5> And LAC<1>\tskip\t1\n"
    ++ ascii "do\ti<6> And LAC<1:12> Eql 0\tskip\t1\n"
    ++ ascii "do\ti<7> And LAC<0>\tskip\t1\n"
    ++ ascii "do\ti<8>\tskip\tNot skip\n"
    ++ ascii "do\tskip\tPC\tPC + 1\n"
    ++ ascii "do\ti<4>\tLAC<1:12>\t0\n"
    ++ ascii "do\ti<9>\tLAC<1:12>\tLAC<1:12> Or SWITCHES\n"
    ++ ascii "do\ti<10>\tRUN\t0\n"
    ++ ascii "go\ti<10>\trestart\n"
    ++ ascii "go\t1\tinterrupt\n"
    ++ ascii "at\tgroup.3\n"
    ++ ascii "do\ti<4>\tLAC<1:12>\t0\n"
    ++ ascii "at\tinterrupt\n"

-- "INTERRUPT.REQUEST becomes the or of the two flags at each interrupt test."
abbrev request_lines : List ℕ
request_lines = ascii "do\t1\tINTERRUPT.REQUEST\tKEYBOARD.FLAG Or PRINTER.FLAG\n"

-- the interrupt test
abbrev interrupt_lines : List ℕ
interrupt_lines =
    ascii "go\tNot INTERRUPT.ENABLE\trestart\n"
    ++ ascii "go\tNot INTERRUPT.REQUEST\trestart\n"
    ++ ascii "do\t1\tM[0]\tPC\n"
    ++ ascii "do\t1\tPC\t1\n"
    ++ ascii "do\t1\tINTERRUPT.ENABLE\t0\n"
    ++ ascii "at\trestart\n"

unfoldable pub shipped_text : Variant → List ℕ
shipped_text plain = machine_lines ++ working_lines ++ fetch_lines ++ address_lines ++ reference_lines ++ switch_lines ++ operate_lines ++ interrupt_lines
shipped_text devices =
    machine_lines ++ device_lines ++ working_lines ++ fetch_lines ++ address_lines ++ reference_lines ++ switch_lines ++ keyboard_lines ++ operate_lines ++ request_lines
    ++ interrupt_lines
